use Rattle.std.proofs.Common.{◌≤◌}
use Rattle.csv_cuts.specs.Cut.{csv_state}
use Rattle.csv_cuts.proofs.Scan.{ScanSo}
use Rattle.csv_cuts.proofs.window.scanned.Given as goal

abbrev pub invariant-loop-place : goal.invariant-loop-place
invariant-loop-place l = record {
  so : ScanSo l.bytes l.records l.place (csv_state l.stand) l.count l.last;
  few : l.count ≤ l.place;
}
