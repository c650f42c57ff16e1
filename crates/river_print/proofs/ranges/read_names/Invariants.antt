use Rattle.std.proofs.Common.{drop}
use Rattle.river_print.specs.Writable.{Every, IsNamed}
use Rattle.river_print.proofs.ranges.read_names.Given as goal

abbrev pub invariant-loop-name : goal.invariant-loop-name
invariant-loop-name l = Every IsNamed (drop l.name-index l.names) → Every IsNamed (l.names)
