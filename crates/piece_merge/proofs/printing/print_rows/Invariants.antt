use Rattle.std.proofs.Common.{◌≡◌, ◌++◌, drop}
use Rattle.csv_streams.specs.Outcome.{texts_of, row_line}
use Rattle.piece_merge.proofs.printing.print_rows.Given as goal

abbrev pub invariant-loop-row : goal.invariant-loop-row
invariant-loop-row l = l.to ++ texts_of row_line (drop l.row-index l.row-items) ≡ l.initial.to ++ texts_of row_line l.row-items
