use Rattle.river_plan.specs.First.{Unless}
use Rattle.river_plan.specs.Forms.{op_form, plan_form}
use Rattle.river_plan.specs.Kinds.{IsFit}
use Rattle.plan_check.proofs.Remains.{RemainsBy}
use Rattle.plan_check.proofs.misfit.first_misfit.Given as goal

abbrev pub invariant-loop-number : goal.invariant-loop-number
invariant-loop-number l = RemainsBy op_form (λ before op. Unless (IsFit (plan_form l.raw) op) op) l.raw.ops l.number
