use Rattle.std.proofs.Common.{drop}
use Rattle.river_print.specs.Writable.{Every, IsWritableTable}
use Rattle.river_print.proofs.ranges.read_tables.Given as goal

abbrev pub invariant-loop-table : goal.invariant-loop-table
invariant-loop-table l = Every IsWritableTable (drop l.table-index l.tables) → Every IsWritableTable (l.tables)
