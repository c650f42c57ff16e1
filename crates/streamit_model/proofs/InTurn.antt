-- Queues and variables are declared in the order in which the operators first use them.
use Rattle.std.proofs.Common.{◌≡◌, ℕ, ◌+◌, ◌<◌, ◌≤◌, false, List, [], ◌∷◌, ◌++◌, sym, ap, ◌∙◌, arith, ⊎_elim, append_assoc}
use Rattle.std.specs.Prelude.{filter, fold, codes}
use Rattle.std.proofs.lemmas.List.{append-nil}
use Rattle.std.proofs.lemmas.List.Elements.{filter-append}
use Rattle.std.proofs.lemmas.List.Sums.{fold-append}
use Rattle.river_base.proofs.PlaceLemmas.{if_lt, if_ge}
use Rattle.river_base.specs.Name.{name_eq}
use Rattle.river_plan.specs.Forms.{Name, OpForm}
use Rattle.river_plan.specs.InTurn.{mentioned}
use Rattle.river_plan.specs.Names.{one_if, count, with_name}
use Rattle.river_plan.specs.Uses.{total, writes_it, and_writes, ReadsBefore, all_writes, all_vars}
use Rattle.river_plan.proofs.NameLemmas.{cases_name, count-append, one_same, more_or_zero, there_stays, all_new}
use Rattle.river_plan.proofs.ShareLemmas.{total-vars}
use Rattle.streamit_model.specs.Plan.{is_own_queue, own_queues, ops_from}
use Rattle.streamit_model.specs.Laws.{PlansInTurn}
use Rattle.streamit_model.proofs.OwnQueues.{kept, left, is-out, no-out, own_other}
use Rattle.streamit_model.proofs.Valid.{valid, names_of}

-- names of which only the output stands there already
news : (seen ws : List Name) → 0 < count (codes "out") seen → ((z : Name) → name_eq (codes "out") z ≡ false → count z seen + count z ws ≤ 1)
    → fold with_name seen ws ≡ seen ++ filter is_own_queue ws
news seen [] h once = sym (append-nil seen)
news seen (w ∷ ws) h once = ⊎_elim
    (λ c. ap (λ s. fold with_name s ws) (if_lt 0 (count w seen) seen (seen ++ w ∷ []) (subst_count c.0))
    ∙ news seen ws h (λ z n. let b = once z n in omega (arith, b))
    ∙ sym (ap (λ l. seen ++ l) (left w ws (is-out w c.1))))
    (λ c. ap (λ s. fold with_name s ws) (if_ge 0 (count w seen) seen (seen ++ w ∷ []) (let o = one_same w in let b = once w c.1 in omega (arith, o, b)))
    ∙ news (seen ++ w ∷ []) ws
    (let e = count-append (codes "out") seen (w ∷ []) in omega (arith, e, h))
    (λ z n. let e = count-append z seen (w ∷ []) in let b = once z n in omega (arith, e, b))
    ∙ append_assoc seen (w ∷ []) (filter is_own_queue ws)
    ∙ sym (ap (λ l. seen ++ l) (kept w ws (no-out w c.1))))
    (cases_name (codes "out") w)
  where
    subst_count : codes "out" ≡ w → 0 < count w seen
    subst_count e = let d = ap (λ x. count x seen) e in omega (arith, d, h)

-- operators that read what was named before name besides what they write
first_named : (seen : List Name) (known : Name → ℕ) (ops : List OpForm) → ReadsBefore known ops → ((z : Name) → 0 < known z → 0 < count z seen)
    → 0 < count (codes "out") seen
    → ((z : Name) → name_eq (codes "out") z ≡ false → count z seen + total (writes_it z) ops ≤ 1)
    → fold with_name seen (mentioned ops) ≡ seen ++ own_queues ops
first_named seen known [] r k h once = sym (append-nil seen)
first_named seen known (o ∷ os) r k h once =
    let new = filter is_own_queue o.writes in
    fold-append with_name seen (o.reads ++ o.writes) (mentioned os)
    ∙ ap (λ s. fold with_name s (mentioned os)) (fold-append with_name seen o.reads o.writes
    ∙ ap (λ s. fold with_name s o.writes) (there_stays seen o.reads (λ z lt. k z (r.0 z lt)))
    ∙ news seen o.writes h (λ z n. let b = once z n in omega (arith, b)))
    ∙ first_named (seen ++ new) (and_writes known o) os r.1
    (λ z lt. let e = count-append z seen new in ⊎_elim
    (λ c. let d = ap (λ x. count x seen) c.0 in omega (arith, e, d, h))
    (λ c. let m = own_other z o.writes c.1 in ⊎_elim
    (λ some. let g = k z some in omega (arith, e, g))
    (λ z0. omega (arith, e, m, lt, z0))
    (more_or_zero (known z)))
    (cases_name (codes "out") z))
    (let e = count-append (codes "out") seen new in omega (arith, e, h))
    (λ z n. let e = count-append z seen new in let m = own_other z o.writes n in let b = once z n in omega (arith, e, m, b))
    ∙ append_assoc seen new (own_queues os)
    ∙ ap (λ l. seen ++ l) (sym (filter-append is_own_queue o.writes (all_writes os)))

pub plans_in_turn : PlansInTurn
plans_in_turn s ok small few =
    let k = valid s ok small few in
    let outer = codes "out" ∷ codes "in" ∷ [] in (
      first_named outer (λ z. count z (codes "in" ∷ [])) (ops_from s) k.in_order
          (λ z lt. omega (arith, lt))
          (let o = one_same (codes "out") in omega (arith, o))
          (λ z n. let w = k.written_once z in let o = ap one_if n in omega (arith, w, o))
          ∙ ap (λ l. outer ++ l) (sym (names_of (own_queues (ops_from s)))),
      all_new [] (all_vars (ops_from s)) (λ v. ⊎_elim (λ lt. let o = k.private_once v lt in let t = total-vars v (ops_from s) in omega (arith, o, t))
          (λ z. omega (arith, z)) (more_or_zero (count v (all_vars (ops_from s))))),
    )
