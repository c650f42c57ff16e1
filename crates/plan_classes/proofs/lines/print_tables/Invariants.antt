use Rattle.std.proofs.Common.{◌≡◌, ◌++◌, drop}
use Rattle.river_plan.specs.Forms.{table_names}
use Rattle.plan_classes.specs.Lines.{class_tables}
use Rattle.plan_classes.proofs.lines.print_tables.Given as goal

abbrev pub invariant-loop-place : goal.invariant-loop-place
invariant-loop-place l =
    l.to ++ class_tables l.class (table_names (drop l.place l.tables)) (drop l.place l.classes) ≡ l.initial.to ++ class_tables l.class
    (table_names l.tables) l.classes
