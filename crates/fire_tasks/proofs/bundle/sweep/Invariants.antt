use Rattle.std.proofs.Common.{◌≡◌}
use Rattle.river_plan.specs.Forms.{plan_form}
use Rattle.fire_tasks.proofs.BundleLemmas.{HavePassed}
use Rattle.fire_tasks.proofs.bundle.sweep.Given as goal

abbrev pub invariant-loop-place : goal.invariant-loop-place
invariant-loop-place g l = record {
  lot : l.seat.lot ≡ l.initial.seat.lot;
  passed : HavePassed (plan_form l.plan) l.initial.seat.view l.seat.view l.place l.initial.tasks l.tasks l.moved;
}
