use Rattle.std.proofs.Common.{◌≡◌, ◌≤◌, ◌+◌, drop}
use Rattle.csv_cuts.specs.Cut.{records_in, csv_state}
use Rattle.csv_cuts.specs.declared.cut.Stand.TheVariants as at
use Rattle.csv_cuts.proofs.cut.counted.Given as goal

abbrev pub invariant-loop-place : goal.invariant-loop-place
invariant-loop-place l = record {
  same : records_in (csv_state at.Record) (drop l.initial.front l.initial.bytes) ≡ l.count + records_in (csv_state l.stand) (drop l.place l.bytes);
  few : l.count ≤ l.place;
}
