use Rattle.std.proofs.Common.{◌≡◌, drop}
use Rattle.river_kernels.specs.Limits.{first_above}
use Rattle.river_plan.specs.Forms.{op_forms}
use Rattle.river_plan.specs.Limits.{nestings}
use Rattle.plan_check.proofs.limit.nestings_over.Given as goal

abbrev pub invariant-loop-op : goal.invariant-loop-op
invariant-loop-op l = first_above l.most (nestings (op_forms (drop l.op-index l.op-items))) ≡ first_above l.most (nestings (op_forms (l.op-items)))
