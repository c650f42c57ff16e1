use Rattle.std.proofs.Common.{◌≡◌, ◌≤◌, ◌-◌, ◌++◌, length, drop, take}
use Rattle.csv_streams.specs.Number.{digits_of, after_digits}
use Rattle.csv_streams.proofs.number.digit_count.Given as goal

abbrev pub invariant-loop-count : goal.invariant-loop-count
invariant-loop-count l = record {
  within : l.count ≤ length l.text;
  digits : take l.count l.text ++ digits_of (drop l.count l.text) ≡ digits_of l.text;
  rest : after_digits (drop l.count l.text) ≡ after_digits l.text;
}

abbrev pub decreases-loop-count : goal.decreases-loop-count
decreases-loop-count l = length l.text - l.count
