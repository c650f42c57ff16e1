use Rattle.std.proofs.Common.{◌≡◌, take}
use Rattle.river_plan.specs.Forms.{op_forms, labels}
use Rattle.plan_check.proofs.lists.labels.Given as goal

abbrev pub invariant-loop-op : goal.invariant-loop-op
invariant-loop-op l = l.names ≡ labels (op_forms (take l.op-index l.op-items))
