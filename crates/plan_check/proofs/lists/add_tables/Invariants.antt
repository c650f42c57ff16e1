use Rattle.std.proofs.Common.{◌≡◌, ◌++◌, take}
use Rattle.river_plan.specs.Forms.{table_names}
use Rattle.plan_check.proofs.lists.add_tables.Given as goal

abbrev pub invariant-loop-table : goal.invariant-loop-table
invariant-loop-table l = l.names ≡ l.initial.names ++ table_names (take l.table-index l.table-items)
