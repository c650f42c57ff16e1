use Rattle.river_plan.specs.First.{Unless}
use Rattle.river_plan.specs.Faults.{IsTableKind}
use Rattle.plan_check.proofs.Remains.{Remains}
use Rattle.plan_check.proofs.types.mistyped_table.Given as goal

abbrev pub invariant-loop-table : goal.invariant-loop-table
invariant-loop-table l = Remains (λ before d. Unless (IsTableKind d.kind) d) l.table-items l.table-index
