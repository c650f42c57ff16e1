use Rattle.std.proofs.Common.{◌≡◌, ◌++◌, drop}
use Rattle.river_plan.specs.Caps.{own_of}
use Rattle.river_print.specs.Printed.{queue_line, lines}
use Rattle.river_print.proofs.plan.inner_lines.Given as goal

abbrev pub invariant-loop-decl : goal.invariant-loop-decl
invariant-loop-decl l =
    l.to ++ lines (queue_line (own_of l.own)) (drop l.decl-index l.decls) ≡ l.initial.to ++ lines (queue_line (own_of l.own)) l.decls
