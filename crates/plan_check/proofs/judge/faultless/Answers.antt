use Rattle.std.proofs.Common.{Some, subst}
use Rattle.river_plan.specs.Forms.{plan_form}
use Rattle.river_plan.specs.Wired.{LaterFault}
use Rattle.river_plan.proofs.JudgeLemmas.{fault-first, judged-fault}
use Rattle.plan_check.proofs.judge.faultless.Goals as goal

pub returns-in-Some-clause-fault : goal.returns-in-Some-clause-fault
returns-in-Some-clause-fault c =
    let p = plan_form c.args.raw.now in
    judged-fault p c.in-Some.fault (fault-first p (Some c.in-Some.fault) c.requires.named (subst (LaterFault p) c.in-Some.is c.in_ok-fault.ensures))
