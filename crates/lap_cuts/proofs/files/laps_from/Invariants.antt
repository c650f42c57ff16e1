use Rattle.std.proofs.Common.{◌≡◌, ◌≤◌, ◌+◌, ◌-◌, length, IfSome}
use Rattle.piece_work.specs.Cutting.{IsWindow}
use Rattle.lap_cuts.proofs.Held.{LapsSo}
use Rattle.lap_cuts.proofs.files.laps_from.Given as goal

abbrev pub invariant-loop-window : goal.invariant-loop-window
invariant-loop-window g l = record {
  stays : g.S.Shelf.held l.shelf ≡ g.S.Shelf.held l.initial.shelf;
  later : g.S.Shelf.faults l.initial.shelf ≤ g.S.Shelf.faults l.shelf;
  to_later : g.P.PieceSink.faults l.initial.to ≤ g.P.PieceSink.faults l.to;
  within : l.start + length l.window.items ≤ 1099511889920;
  so : IfSome (g.S.Shelf.held l.initial.shelf) (λ h. IsWindow (h l.file) l.start l.window.items);
  taken : IfSome (g.S.Shelf.held l.initial.shelf) (λ h. LapsSo (h l.file) l.from l.start l.laps.records l.laps.step (g.P.PieceSink.taken l.initial.to)
      (g.P.PieceSink.taken l.to));
}

abbrev pub decreases-loop-window : goal.decreases-loop-window
decreases-loop-window g l = 1099511889920 - l.start
