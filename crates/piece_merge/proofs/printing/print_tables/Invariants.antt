use Rattle.std.proofs.Common.{◌≡◌, ◌++◌, drop, map}
use Rattle.kern_tables.specs.Kept.{rows_of}
use Rattle.river_plan.specs.Forms.{table_names}
use Rattle.csv_streams.specs.Outcome.{tables_text}
use Rattle.piece_merge.proofs.printing.print_tables.Given as goal

abbrev pub invariant-loop-place : goal.invariant-loop-place
invariant-loop-place l =
    l.to ++ tables_text (table_names (drop l.place l.tables)) (map rows_of (drop l.place l.kept)) ≡ l.initial.to ++ tables_text (table_names l.tables)
    (map rows_of l.kept)
