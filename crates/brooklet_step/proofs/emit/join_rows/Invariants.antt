use Rattle.std.proofs.Common.{◌≡◌, length}
use Rattle.river_base.specs.Places.{each_grew, upto, list_at}
use Rattle.brooklet_model.specs.Firings.{beside}
use Rattle.brooklet_step.proofs.Fused.{Leaves}
use Rattle.brooklet_step.proofs.emit.join_rows.Given as goal

abbrev pub invariant-loop-table : goal.invariant-loop-table
invariant-loop-table l = record {
  adds : l.adds ≡ each_grew l.initial.adds (upto l.table (beside (length l.initial.first) (list_at l.initial.first) (list_at l.initial.second)));
  left : Leaves (beside (length l.initial.first)) l.table l.initial.first l.first l.initial.second l.second;
}
