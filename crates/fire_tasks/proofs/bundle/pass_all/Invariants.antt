use Rattle.std.proofs.Common.{◌≡◌}
use Rattle.river_plan.specs.Forms.{plan_form}
use Rattle.fire_tasks.proofs.BundleLemmas.{Went}
use Rattle.fire_tasks.proofs.bundle.pass_all.Given as goal

abbrev pub invariant-loop-more : goal.invariant-loop-more
invariant-loop-more g l = record {
  lot : l.seat.lot ≡ l.initial.seat.lot;
  went : Went (plan_form l.plan) l.initial.seat.view l.seat.view l.initial.tasks l.tasks;
}
