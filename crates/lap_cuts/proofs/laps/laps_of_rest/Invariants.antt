use Rattle.std.proofs.Common.{◌≤◌, ◌<◌, ◌-◌, length, drop}
use Rattle.lap_cuts.specs.Laps.{CutsLap}
use Rattle.lap_cuts.proofs.Cuts.{LapsOff}
use Rattle.lap_cuts.proofs.laps.laps_of_rest.Given as goal

abbrev pub invariant-loop-from : goal.invariant-loop-from
invariant-loop-from g l = record {
  later : g.P.PieceSink.faults l.initial.to ≤ g.P.PieceSink.faults l.to;
  after : l.from ≤ l.lap.next;
  within : l.from < l.lap.next → l.lap.end < length l.rest;
  ordered : l.from < l.lap.next → l.lap.next ≤ l.lap.end;
  cuts : l.from < l.lap.next → CutsLap l.laps.records l.laps.step (drop l.from l.rest) (l.lap.end - l.from) (l.lap.next - l.from);
  front : LapsOff l.laps.records l.laps.step l.rest (drop l.from l.rest) (g.P.PieceSink.taken l.initial.to) (g.P.PieceSink.taken l.to);
  place : l.from ≤ length l.rest;
}

abbrev pub decreases-loop-from : goal.decreases-loop-from
decreases-loop-from g l = length l.rest - l.from
