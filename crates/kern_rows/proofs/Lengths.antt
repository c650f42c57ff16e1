-- A body keeps the number of its slots.
use Rattle.std.proofs.Common.{◌≡◌, ℕ, ℤ, pos, ◌-◌, Bool, true, false, List, length, refl, ◌∙◌, arith, length-append, replicate}
use Rattle.std.specs.Prelude.{if◌then◌else◌}
use Rattle.std.proofs.lemmas.List.{length-take-le, length-set}
use Rattle.work_code.specs.Steps.{Step, Steps, Set, Push, If, Done, Then, BodyForm}
use Rattle.work_code.specs.Ran.{Ran, ran, ran_once}
use Rattle.work_code.specs.Value.{val, is_true}
use Rattle.kern_rows.specs.Runs.{slots_from, run_kept}

either_length : (b : Bool) (r s : Ran) (n : ℕ) → length r.slots ≡ n → length s.slots ≡ n → length (if b then r else s).slots ≡ n
either_length true r s n e f = e
either_length false r s n e f = f

mutual
  once_length : (s : Step) (input slots : List ℤ) → length (ran_once s input slots).slots ≡ length slots
  once_length (Set slot t) input slots = length-set slots slot (val t input slots)
  once_length (Push port ts) input slots = refl
  once_length (If cond when otherwise) input slots =
      either_length (is_true (val cond input slots)) (ran when input slots) (ran otherwise input slots) (length slots) (ran_length when input slots)
      (ran_length otherwise input slots)

  -- a run keeps the number of slots
  pub ran_length : (ss : Steps) (input slots : List ℤ) → length (ran ss input slots).slots ≡ length slots
  ran_length Done input slots = refl
  ran_length (Then s ss) input slots = ran_length ss input (ran_once s input slots).slots ∙ once_length s input slots

-- as many slots are kept as were
pub run_kept_length : (b : BodyForm) (kept input : List ℤ) → length (run_kept b kept input).slots ≡ length kept
run_kept_length b kept input =
    let all = (ran b.steps input (slots_from b.slots kept)).slots in
    let e = ran_length b.steps input (slots_from b.slots kept) in
    let f = length-append kept (replicate (b.slots - length kept) (pos 0)) in
    length-take-le (length kept) all (omega (arith, e, f))
