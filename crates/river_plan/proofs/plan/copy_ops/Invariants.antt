use Rattle.std.proofs.Common.{◌≡◌, take, map}
use Rattle.river_plan.specs.Forms.{op_form}
use Rattle.river_plan.proofs.plan.copy_ops.Given as goal

abbrev pub invariant-loop-op : goal.invariant-loop-op
invariant-loop-op l = map op_form l.copies ≡ map op_form (take l.op-index l.op-items)
