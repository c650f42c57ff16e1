use Rattle.std.proofs.Common.{◌≡◌, ◌++◌, drop}
use Rattle.river_print.specs.Printed.{table_line, lines}
use Rattle.river_print.proofs.plan.table_lines.Given as goal

abbrev pub invariant-loop-table : goal.invariant-loop-table
invariant-loop-table l = l.to ++ lines table_line (drop l.table-index l.tables) ≡ l.initial.to ++ lines table_line l.tables
