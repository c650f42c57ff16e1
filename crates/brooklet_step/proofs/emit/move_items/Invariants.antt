use Rattle.std.proofs.Common.{◌≡◌, ◌++◌, length, reverse}
use Rattle.brooklet_step.proofs.emit.move_items.Given as goal

abbrev pub invariant-loop-item : goal.invariant-loop-item
invariant-loop-item l = l.line ++ reverse l.items ≡ l.fn.line ++ l.fn.items

abbrev pub decreases-loop-item : goal.decreases-loop-item
decreases-loop-item l = length l.items
