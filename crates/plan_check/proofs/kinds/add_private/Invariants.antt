use Rattle.std.proofs.Common.{◌≡◌, ◌++◌, take}
use Rattle.river_plan.specs.ByPlace.{private_kinds}
use Rattle.plan_check.proofs.kinds.add_private.Given as goal

abbrev pub invariant-loop-name : goal.invariant-loop-name
invariant-loop-name l = l.kinds ≡ l.initial.kinds ++ private_kinds (take l._name-index l._name-items)
