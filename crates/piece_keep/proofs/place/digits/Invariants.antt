use Rattle.std.proofs.Common.{◌≡◌, ◌++◌, take, drop}
use Rattle.csv_streams.specs.Number.{after_digits, digits_of}
use Rattle.piece_keep.proofs.place.digits.Given as goal

abbrev pub invariant-loop-place : goal.invariant-loop-place
invariant-loop-place l = record {
  are : take l.place l.text ++ digits_of (drop l.place l.text) ≡ digits_of l.text;
  behind : after_digits (drop l.place l.text) ≡ after_digits l.text;
}
