use Rattle.std.proofs.Common.{◌≡◌, ◌++◌, drop}
use Rattle.csv_streams.specs.Outcome.{texts_of, row_line}
use Rattle.csv_streams.proofs.outcome.print_even.Given as goal

abbrev pub invariant-loop-place : goal.invariant-loop-place
invariant-loop-place l = l.to ++ texts_of row_line (drop l.place l.rows) ≡ l.initial.to ++ texts_of row_line l.rows
