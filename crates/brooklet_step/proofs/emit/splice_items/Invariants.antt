use Rattle.std.proofs.Common.{◌≡◌, length}
use Rattle.river_base.specs.Places.{each_grew, upto, list_at}
use Rattle.brooklet_model.specs.Firings.{splice}
use Rattle.brooklet_step.proofs.Fused.{Leaves}
use Rattle.brooklet_step.proofs.emit.splice_items.Given as goal

abbrev pub invariant-loop-port : goal.invariant-loop-port
invariant-loop-port l = record {
  outs : l.outs ≡ each_grew l.initial.outs (upto l.port (splice l.at (length l.initial.second) (list_at l.initial.first) (list_at l.initial.second)));
  left : Leaves (splice l.at (length l.initial.second)) l.port l.initial.first l.first l.initial.second l.second;
}
