use Rattle.std.proofs.Common.{◌≡◌, take, map}
use Rattle.river_plan.specs.ByPlace.{kind_at}
use Rattle.fire_open.proofs.tasks.kinds_of.Given as goal

abbrev pub invariant-loop-place : goal.invariant-loop-place
invariant-loop-place l = l.list ≡ map (kind_at l.kinds) (take l.place-index l.places)
