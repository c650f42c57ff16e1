use Rattle.std.proofs.Common.{◌≡◌, length, take}
use Rattle.csv.specs.Records.{fields_of}
use Rattle.csv_streams.specs.Written.{AllWrite}
use Rattle.piece_merge.proofs.record.values_of.Given as goal

abbrev pub invariant-loop-place : goal.invariant-loop-place
invariant-loop-place l = record {
  room : length l.values ≡ 16;
  all : AllWrite (take l.place (fields_of l.raw)) (take l.place l.values);
}
