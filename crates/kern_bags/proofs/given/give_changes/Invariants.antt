use Rattle.std.proofs.Common.{◌≡◌, ◌++◌}
use Rattle.kern_bags.specs.Following.{as_changes}
use Rattle.kern_bags.proofs.given.give_changes.Given as goal

abbrev pub invariant-loop-change : goal.invariant-loop-change
invariant-loop-change l = l.out ≡ l.initial.out ++ as_changes l.yielded
