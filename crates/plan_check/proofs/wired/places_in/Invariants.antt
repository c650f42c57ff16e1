use Rattle.std.proofs.Common.{◌≡◌, take}
use Rattle.river_plan.specs.Places.{places}
use Rattle.plan_check.proofs.wired.places_in.Given as goal

abbrev pub invariant-loop-name : goal.invariant-loop-name
invariant-loop-name l = l.all ≡ places l.set (take l.name-index l.name-items)
