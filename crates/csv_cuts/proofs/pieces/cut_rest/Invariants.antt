use Rattle.std.proofs.Common.{◌≡◌, ◌≤◌, ◌<◌, ◌+◌, ◌-◌, length, take, drop}
use Rattle.csv_cuts.specs.Window.{CutsOff, NoneUpTo, IsWithin, TookWithin}
use Rattle.csv_cuts.proofs.Fronts.{TookOff}
use Rattle.csv_cuts.proofs.pieces.cut_rest.Given as goal

abbrev pub invariant-loop-from : goal.invariant-loop-from
invariant-loop-from g l = record {
  later : g.P.PieceSink.faults l.initial.to ≤ g.P.PieceSink.faults l.to;
  after : l.from ≤ l.end;
  within : l.end ≤ length l.rest;
  cuts : l.from < l.end → l.end < length l.rest → CutsOff (drop l.from l.rest) (l.end - l.from);
  long : l.from ≡ l.end → l.end < length l.rest → l.from + l.size.bytes < length l.rest;
  none : l.from ≡ l.end → l.end < length l.rest → NoneUpTo (drop l.from l.rest) l.size.bytes;
  size : l.from < l.end → l.end < length l.rest → IsWithin l.size.records l.size.bytes (take (l.end - l.from) (drop l.from l.rest));
  whole : l.end ≡ length l.rest → IsWithin l.size.records l.size.bytes (drop l.from l.rest);
  sized : TookWithin l.size.records l.size.bytes (g.P.PieceSink.taken l.initial.to) (g.P.PieceSink.taken l.to);
  front : TookOff l.rest (drop l.from l.rest) (g.P.PieceSink.taken l.initial.to) (g.P.PieceSink.taken l.to);
}

abbrev pub decreases-loop-from : goal.decreases-loop-from
decreases-loop-from g l = length l.rest - l.from
