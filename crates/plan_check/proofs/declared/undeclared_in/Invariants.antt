use Rattle.river_plan.specs.Forms.{op_form}
use Rattle.river_plan.specs.Faults.{UndeclaredAt}
use Rattle.plan_check.proofs.Remains.{RemainsBy}
use Rattle.plan_check.proofs.declared.undeclared_in.Given as goal

abbrev pub invariant-loop-op : goal.invariant-loop-op
invariant-loop-op l = RemainsBy op_form (λ before op. UndeclaredAt l.queues l.variables op) l.op-items l.op-index
