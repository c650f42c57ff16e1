use Rattle.std.proofs.Common.{drop}
use Rattle.river_print.specs.Writable.{Every, IsWritableStart}
use Rattle.river_print.proofs.ranges.read_values.Given as goal

abbrev pub invariant-loop-item : goal.invariant-loop-item
invariant-loop-item l = Every IsWritableStart (drop l.item-index l.items) → Every IsWritableStart (l.items)
