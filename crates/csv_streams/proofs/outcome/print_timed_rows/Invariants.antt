use Rattle.std.proofs.Common.{◌≡◌, ◌++◌, ◌∷◌, drop, map}
use Rattle.csv_streams.specs.Outcome.{texts_of, row_line}
use Rattle.csv_streams.proofs.outcome.print_timed_rows.Given as goal

abbrev pub invariant-loop-row : goal.invariant-loop-row
invariant-loop-row l =
    l.to ++ texts_of row_line (map (λ row. l.at ∷ row) (drop l.row-index l.rows)) ≡ l.initial.to ++ texts_of row_line (map (λ row. l.at ∷ row) l.rows)
