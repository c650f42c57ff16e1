use Rattle.std.proofs.Common.{◌≡◌, take}
use Rattle.csv_streams.proofs.rows.rows_in.Given as goal

abbrev pub invariant-loop-place : goal.invariant-loop-place
invariant-loop-place l = l.rows ≡ take l.place l.even
