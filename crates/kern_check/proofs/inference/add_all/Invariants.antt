use Rattle.std.proofs.Common.{◌≡◌, ◌++◌, take}
use Rattle.kern_check.proofs.inference.add_all.Given as goal

abbrev pub invariant-loop-x : goal.invariant-loop-x
invariant-loop-x g l = l.list ≡ l.initial.list ++ take l.x-index l.more
