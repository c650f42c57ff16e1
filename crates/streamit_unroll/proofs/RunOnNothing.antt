-- One run on no items.
use Rattle.std.proofs.Common.{ℕ, pos, ◌≡◌, ◌+◌, ◌-◌, ◌≤◌, [], ◌++◌, take, replicate, sym, ap, ◌∙◌, arith}
use Rattle.std.proofs.lemmas.List.{length-replicate, replicate-append-replicate}
use Rattle.work_code.specs.Steps.{Steps}
use Rattle.work_code.specs.Ran.{ran}
use Rattle.kern_rows.specs.Runs.{slots_from, run_kept}

-- the slots of fields that are 0 are zeros
pub zeros-slots : (slots fields : ℕ) → fields ≤ slots → slots_from slots (replicate fields (pos 0)) ≡ replicate slots (pos 0)
zeros-slots slots fields le =
    ap (λ k. replicate fields (pos 0) ++ replicate (slots - k) (pos 0)) (length-replicate fields (pos 0))
    ∙ replicate-append-replicate fields (slots - fields) (pos 0)
    ∙ ap (λ k. replicate k (pos 0)) (let e : fields + (slots - fields) ≡ slots = omega (arith, le) in e)

-- a body runs on fields that are 0 as on slots that all are
pub kept_zeros : (slots fields : ℕ) (b : Steps) → fields ≤ slots
    → take fields (ran b [] (replicate slots (pos 0))).slots ≡ (run_kept (record { inputs = 0; slots = slots; steps = b }) (replicate fields (pos 0)) []).slots
kept_zeros slots fields b le =
    ap (λ l. take fields (ran b [] l).slots) (sym (zeros-slots slots fields le))
    ∙ ap (λ k. take k (ran b [] (slots_from slots (replicate fields (pos 0)))).slots) (sym (length-replicate fields (pos 0)))
