use Rattle.std.proofs.Common.{◌≡◌, take}
use Rattle.river_base.proofs.duplicate.ListedDuplicate.copy.Given as goal

abbrev pub invariant-loop-x : goal.invariant-loop-x
invariant-loop-x g l = l.copies ≡ take l.x-index l.x-items
