use Rattle.std.proofs.Common.{◌≡◌, ◌++◌, take}
use Rattle.river_plan.specs.ByPlace.{table_kinds}
use Rattle.plan_check.proofs.kinds.add_tables.Given as goal

abbrev pub invariant-loop-table : goal.invariant-loop-table
invariant-loop-table l = l.kinds ≡ l.initial.kinds ++ table_kinds (take l.table-index l.table-items)
