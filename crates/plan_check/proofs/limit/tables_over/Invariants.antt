use Rattle.std.proofs.Common.{◌≡◌, drop}
use Rattle.std.specs.Prelude.{flat_map}
use Rattle.river_kernels.specs.Limits.{first_above}
use Rattle.river_plan.specs.Limits.{best_rows}
use Rattle.plan_check.proofs.limit.tables_over.Given as goal

abbrev pub invariant-loop-table : goal.invariant-loop-table
invariant-loop-table l =
    first_above l.most (flat_map (λ t. best_rows t.kind) (drop l.table-index l.table-items)) ≡ first_above l.most
    (flat_map (λ t. best_rows t.kind) (l.table-items))
