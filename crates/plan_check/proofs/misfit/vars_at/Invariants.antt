use Rattle.std.proofs.Common.{◌≡◌, take, map}
use Rattle.river_plan.specs.ByPlace.{var_kind_at}
use Rattle.plan_check.proofs.misfit.vars_at.Given as goal

abbrev pub invariant-loop-place : goal.invariant-loop-place
invariant-loop-place l = l.kinds ≡ map (var_kind_at l.vars) (take l.place-index l.place-items)
