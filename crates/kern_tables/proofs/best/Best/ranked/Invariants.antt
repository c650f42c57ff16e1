use Rattle.std.proofs.Common.{◌≡◌, take}
use Rattle.kern_tables.proofs.best.Best.ranked.Given as goal

abbrev pub invariant-loop-r : goal.invariant-loop-r
invariant-loop-r l = l.all ≡ take l.r-index l.r-items
