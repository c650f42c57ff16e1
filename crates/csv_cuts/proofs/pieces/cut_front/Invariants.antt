use Rattle.std.proofs.Common.{◌≡◌, ◌≤◌, ◌<◌, ◌+◌, ◌-◌, length, take, drop}
use Rattle.std.specs.Prelude.{min}
use Rattle.csv_cuts.specs.Window.{CutsOff, NoneUpTo, TookFrom, IsWithin, TookWithin}
use Rattle.csv_cuts.proofs.pieces.cut_front.Given as goal

abbrev pub invariant-loop-from : goal.invariant-loop-from
invariant-loop-from g l = record {
  later : g.P.PieceSink.faults l.initial.to ≤ g.P.PieceSink.faults l.to;
  after : l.from ≤ l.end;
  within : l.from < l.end → l.end + 3 ≤ length l.window;
  cuts : l.from < l.end → CutsOff (drop l.from l.window) (l.end - l.from);
  none : l.from ≡ 0 → l.end ≡ 0 → NoneUpTo l.window (min l.size.bytes (length l.window - 3));
  size : l.from < l.end → IsWithin l.size.records l.size.bytes (take (l.end - l.from) (drop l.from l.window));
  sized : TookWithin l.size.records l.size.bytes (g.P.PieceSink.taken l.initial.to) (g.P.PieceSink.taken l.to);
  front : TookFrom l.window l.from (g.P.PieceSink.taken l.initial.to) (g.P.PieceSink.taken l.to);
}

abbrev pub decreases-loop-from : goal.decreases-loop-from
decreases-loop-from g l = length l.window - l.from
