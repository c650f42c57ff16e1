use Rattle.river_plan.specs.Forms.{plan_form}
use Rattle.river_plan.specs.Limits.{OverLimitAt}
use Rattle.plan_check.proofs.Remains.{Remains}
use Rattle.plan_check.proofs.limit.over_limits.Given as goal

abbrev pub invariant-loop-limit : goal.invariant-loop-limit
invariant-loop-limit l = Remains (λ before limit. OverLimitAt (plan_form l.raw) limit) l.limits l.limit-index
