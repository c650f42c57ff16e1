use Rattle.std.proofs.Common.{Some, None}
use Rattle.river_plan.specs.declared.fault.PlanFault.TheVariants.{P8}
use Rattle.river_plan.specs.Forms.{plan_form}
use Rattle.river_plan.specs.Limits.{most_of, numbers}
use Rattle.plan_check.proofs.OverLemmas.{first-above}
use Rattle.plan_check.proofs.limit.over_limit_at.Goals as goal

pub returns-in-Some : goal.returns-in-Some
returns-in-Some c =
    first-above (most_of c.args.limit) (P8 c.args.limit) (numbers c.args.limit (plan_form c.args.raw.now)) (Some c.in-Some.number) c.in-Some.ensures

pub returns-in-None : goal.returns-in-None
returns-in-None c = first-above (most_of c.args.limit) (P8 c.args.limit) (numbers c.args.limit (plan_form c.args.raw.now)) None c.in-None.ensures
