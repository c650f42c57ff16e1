use Rattle.std.proofs.Common.{◌≡◌, ◌++◌, drop}
use Rattle.river_print.specs.Printed.{var_line, lines}
use Rattle.river_print.proofs.plan.var_lines.Given as goal

abbrev pub invariant-loop-name : goal.invariant-loop-name
invariant-loop-name l = l.to ++ lines var_line (drop l.name-index l.vars) ≡ l.initial.to ++ lines var_line l.vars
