use Rattle.std.proofs.Common.{◌≡◌, take, map}
use Rattle.river_plan.specs.ByPlace.{kind_at}
use Rattle.plan_check.proofs.misfit.kinds_at.Given as goal

abbrev pub invariant-loop-place : goal.invariant-loop-place
invariant-loop-place l = l.kinds ≡ map (kind_at l.queues) (take l.place-index l.place-items)
