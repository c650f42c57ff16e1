use Rattle.std.proofs.Common.{◌≡◌, drop}
use Rattle.river_kernels.specs.Limits.{first_above}
use Rattle.river_plan.specs.Forms.{op_forms}
use Rattle.river_plan.specs.Limits.{port_numbers}
use Rattle.plan_check.proofs.limit.ports_over.Given as goal

abbrev pub invariant-loop-op : goal.invariant-loop-op
invariant-loop-op l = first_above l.most (port_numbers (op_forms (drop l.op-index l.op-items))) ≡ first_above l.most (port_numbers (op_forms (l.op-items)))
