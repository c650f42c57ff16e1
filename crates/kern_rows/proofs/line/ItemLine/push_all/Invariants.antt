use Rattle.std.proofs.Common.{◌≡◌, ◌++◌}
use Rattle.kern_rows.proofs.line.ItemLine.push_all.Given as goal

abbrev pub invariant-loop-item : goal.invariant-loop-item
invariant-loop-item l = l.self ≡ l.initial.self ++ l.yielded
