use Rattle.std.proofs.Common.{drop, map}
use Rattle.river_print.specs.Writable.{Every}
use Rattle.river_plan.specs.Forms.{op_form}
use Rattle.river_print.specs.Ranged.{IsRangedOp}
use Rattle.river_print.proofs.ranges.read_ops.Given as goal

abbrev pub invariant-loop-op : goal.invariant-loop-op
invariant-loop-op l = Every IsRangedOp (map op_form (drop l.op-index l.ops)) → Every IsRangedOp (map op_form l.ops)
