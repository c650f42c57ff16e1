use Rattle.std.proofs.Common.{◌≡◌}
use Rattle.brooklet_run.proofs.opening.lines_of.Given as goal

abbrev pub invariant-loop-items : goal.invariant-loop-items
invariant-loop-items l = l.lines ≡ l.yielded
