use Rattle.std.proofs.Common.{◌≡◌, ◌++◌, drop, map}
use Rattle.kern_tables.specs.Kept.{rows_of}
use Rattle.river_plan.specs.Forms.{table_names}
use Rattle.csv_streams.specs.Outcome.{tables_text}
use Rattle.csv_streams.proofs.outcome.print_tables.Given as goal

abbrev pub invariant-loop-place : goal.invariant-loop-place
invariant-loop-place l =
    l.to ++ tables_text (table_names (drop l.place l.decls)) (map rows_of (drop l.place l.tables)) ≡ l.initial.to ++ tables_text (table_names l.decls)
    (map rows_of l.tables)
