use Rattle.river_plan.specs.Forms.{op_form, decl_names}
use Rattle.river_plan.specs.Faults.{ReadTooEarlyAt}
use Rattle.plan_check.proofs.Remains.{RemainsBy}
use Rattle.plan_check.proofs.order.read_too_early.Given as goal

abbrev pub invariant-loop-op : goal.invariant-loop-op
invariant-loop-op l = RemainsBy op_form (ReadTooEarlyAt (decl_names l.raw.inputs)) l.raw.ops l.op
