use Rattle.std.proofs.Common.{◌≡◌, length, take}
use Rattle.std.specs.Prelude.{Ok}
use Rattle.csv.specs.Records.{fields_of}
use Rattle.csv_streams.specs.Numbered.{numbered_results}
use Rattle.csv_streams.specs.Rows.{value_of_field}
use Rattle.csv_streams.proofs.record.values_of.Given as goal

abbrev pub invariant-loop-place : goal.invariant-loop-place
invariant-loop-place l = record {
  room : length l.values ≡ 17;
  read : numbered_results (value_of_field l.rec) 1 (take l.place (fields_of l.raw)) ≡ Ok (take l.place l.values);
}
