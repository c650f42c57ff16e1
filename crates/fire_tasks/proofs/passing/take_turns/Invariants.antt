use Rattle.std.proofs.Common.{◌≡◌}
use Rattle.river_plan.specs.Forms.{plan_form}
use Rattle.fire_tasks.proofs.TurnLemmas.{Passed}
use Rattle.fire_tasks.proofs.passing.take_turns.Given as goal

abbrev pub invariant-loop-turn : goal.invariant-loop-turn
invariant-loop-turn g l = record {
  lot : l.seat.lot ≡ l.initial.seat.lot;
  passed : Passed (plan_form l.plan) l.initial.seat.view l.seat.view l.initial.task l.task;
}
