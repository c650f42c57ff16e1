-- Loops over operators.
use Rattle.std.proofs.Common.{◌≡◌, ℕ, ◌+◌, ◌<◌, ◌≤◌, List, length, sym, ◌∙◌, subst, arith, ⊎_elim, nat_lt, max}
use Rattle.std.proofs.lemmas.Bool.{cases_lt, or_from, or_right, lt-ltb, le-ltb}
use Rattle.river_kernels.specs.Limits.{told, nesting}
use Rattle.river_plan.specs.Forms.{Name, OpForm}
use Rattle.river_plan.specs.Names.{count}
use Rattle.brooklet_model.proofs.Ports.{length-spliced}
use Rattle.plan_edits.specs.Lists.{place_of_name}
use Rattle.rw_local.specs.Fuse.{fused_op, is_large}
use Rattle.rw_local.proofs.FuseLemmas.{place_below}

-- LIMITS

-- the two counts of outputs, less the queue between, against the limit
pub large_is : (q : Name) (w r : OpForm) (a b m x y : ℕ) → 0 < count q w.writes → x ≡ length w.writes → y ≡ length r.writes → a ≡ told (nesting w.kernel)
    → b ≡ told (nesting r.kernel) → m ≡ max a b → m ≤ 31 → nat_lt 65 (x + y) ≡ is_large (fused_op q w r)
large_is q w r a b m x y there ex ey ea eb em small =
    let n : 1 + max (nesting w.kernel) (nesting r.kernel) ≤ 32 = omega (arith, ea, eb, em, small) in
    let s = length-spliced (place_of_name q w.writes) w.writes r.writes (place_below w.writes q there) in
    ⊎_elim
    (λ lt. lt-ltb 65 (x + y) lt
    ∙ sym (or_right (nat_lt 32 (nesting (fused_op q w r).kernel)) (nat_lt 64 (length (fused_op q w r).writes))
    (lt-ltb 64 (length (fused_op q w r).writes) (omega (arith, s, lt, ex, ey)))))
    (λ ge. le-ltb 65 (x + y) ge
    ∙ sym (or_from (nat_lt 32 (nesting (fused_op q w r).kernel)) (nat_lt 64 (length (fused_op q w r).writes)) (le-ltb 32 (nesting (fused_op q w r).kernel) n)
    (le-ltb 64 (length (fused_op q w r).writes) (omega (arith, s, ge, ex, ey)))))
    (cases_lt 65 (x + y))

-- the place of a queue among the outputs
pub place_there : (q : Name) (ws : List Name) (n : ℕ) → n ≡ place_of_name q ws → 0 < count q ws → n < length ws
place_there q ws n e lt = subst (λ k. k < length ws) (sym e) (place_below ws q lt)
