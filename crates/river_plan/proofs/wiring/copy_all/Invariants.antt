use Rattle.std.proofs.Common.{◌≡◌, take}
use Rattle.river_plan.proofs.wiring.copy_all.Given as goal

abbrev pub invariant-loop-places : goal.invariant-loop-places
invariant-loop-places l = l.copies ≡ take l.places-index l.places-items
