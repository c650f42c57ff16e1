use Rattle.std.proofs.Common.{◌≡◌}
use Rattle.river_plan.specs.Forms.{plan_form}
use Rattle.fire_tasks.proofs.BundleLemmas.{Swept}
use Rattle.fire_tasks.proofs.bundle.look_on.Given as goal

abbrev pub invariant-loop-look : goal.invariant-loop-look
invariant-loop-look g l = record {
  lot : l.seat.lot ≡ l.initial.seat.lot;
  swept : Swept (plan_form l.plan) l.initial.seat.view l.seat.view l.initial.tasks l.tasks;
}
