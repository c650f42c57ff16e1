use Rattle.std.proofs.Common.{◌≡◌, take, drop, map}
use Rattle.params_text.specs.Program.{steps_in_turn, step_of}
use Rattle.params_model.specs.Constants.{HaveFitConstants}
use Rattle.params_model.specs.Environment.{Environment}
use Rattle.params_front.specs.Valued.{IsOver, AreValued, AreNoted}
use Rattle.params_front.proofs.bounds.+fixed.Given as goal

abbrev pub invariant-of_steps-items : goal.invariant-of_steps-items
invariant-of_steps-items l = record {
  same : l.vars ≡ l.initial.vars;
  place : l.place ≡ l.each-index;
  fit : HaveFitConstants (steps_in_turn (map step_of (drop l.each-index l.each-items)));
  valued :
      ((env : Environment) → IsOver l.initial.vars l.known env → AreNoted env (steps_in_turn (map step_of l.each-items)) l.noted)
      → (env : Environment) → IsOver l.initial.vars l.known env
      → AreValued env (steps_in_turn (map step_of (take l.each-index l.each-items))) l.all.items;
}
