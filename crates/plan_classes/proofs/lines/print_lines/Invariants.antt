use Rattle.std.proofs.Common.{◌≡◌, ◌≤◌, ◌++◌, drop}
use Rattle.river_plan.specs.Forms.{table_names}
use Rattle.plan_classes.specs.Lines.{class_lines}
use Rattle.plan_classes.proofs.lines.print_lines.Given as goal

abbrev pub invariant-loop-class : goal.invariant-loop-class
invariant-loop-class l = record {
  text : l.to ++ class_lines l.next (drop l.class-index l.classes) (table_names l.tables) l.classes ≡ l.initial.to ++ class_lines 0 l.classes
      (table_names l.tables) l.classes;
  few : l.next ≤ l.class-index;
}
