use Rattle.std.proofs.Common.{◌≡◌, ℕ, drop, map}
use Rattle.params_text.specs.Program.{steps_in_turn, step_of}
use Rattle.params_model.specs.Judged.{Above, steps_judged}
use Rattle.params_build.specs.Above.{CountsParameters}
use Rattle.params_build.proofs.step.+judged.Given as goal

abbrev pub invariant-steps-items : goal.invariant-steps-items
invariant-steps-items l = record {
  kept : l.known ≡ l.initial.known;
  judged : (k : ℕ) (us : Above) → CountsParameters l.above us
      → steps_judged k us l.initial.known (steps_in_turn (map step_of (drop l.each-index l.each-items))) ≡ steps_judged k us l.initial.known
      (steps_in_turn (map step_of l.each-items));
}
