use Rattle.std.proofs.Common.{◌≡◌, ◌++◌, drop}
use Rattle.river_print.specs.Printed.{decl_line, lines}
use Rattle.river_print.proofs.plan.decl_lines.Given as goal

abbrev pub invariant-loop-decl : goal.invariant-loop-decl
invariant-loop-decl l = l.to ++ lines (decl_line l.word) (drop l.decl-index l.decls) ≡ l.initial.to ++ lines (decl_line l.word) l.decls
