use Rattle.std.proofs.Common.{◌≡◌, ◌≤◌, ◌+◌, ◌-◌, length, IfSome}
use Rattle.csv_cuts.specs.Window.{TookWithin}
use Rattle.piece_work.specs.Cutting.{IsWindow}
use Rattle.piece_work.proofs.Blocks.{TakenSo}
use Rattle.piece_work.proofs.windows.cut_windows.Given as goal

abbrev pub invariant-loop-window : goal.invariant-loop-window
invariant-loop-window g l = record {
  stays : g.S.Shelf.held l.shelf ≡ g.S.Shelf.held l.initial.shelf;
  later : g.S.Shelf.faults l.initial.shelf ≤ g.S.Shelf.faults l.shelf;
  to_later : g.P.PieceSink.faults l.initial.to ≤ g.P.PieceSink.faults l.to;
  behind : l.from ≤ l.start;
  within : l.start + length l.window.items ≤ 1099511889920;
  so : IfSome (g.S.Shelf.held l.initial.shelf) (λ h. IsWindow (h l.file) l.start l.window.items);
  sized : TookWithin l.size.records l.size.bytes (g.P.PieceSink.taken l.initial.to) (g.P.PieceSink.taken l.to);
  taken : IfSome (g.S.Shelf.held l.initial.shelf) (λ h. TakenSo (h l.file) l.from l.start (g.P.PieceSink.taken l.initial.to) (g.P.PieceSink.taken l.to));
}

abbrev pub decreases-loop-window : goal.decreases-loop-window
decreases-loop-window g l = 1099511889920 - l.start
