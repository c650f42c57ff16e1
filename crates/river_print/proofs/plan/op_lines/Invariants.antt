use Rattle.std.proofs.Common.{◌≡◌, ◌++◌, drop, map}
use Rattle.river_plan.specs.Forms.{op_form}
use Rattle.river_print.specs.Printed.{op_line, lines}
use Rattle.river_print.proofs.plan.op_lines.Given as goal

abbrev pub invariant-loop-op : goal.invariant-loop-op
invariant-loop-op l = l.to ++ lines op_line (map op_form (drop l.op-index l.ops)) ≡ l.initial.to ++ lines op_line (map op_form l.ops)
