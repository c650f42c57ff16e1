use Rattle.std.proofs.Common.{subst}
use Rattle.river_plan.specs.First.{IsFirst}
use Rattle.river_plan.specs.Forms.{plan_form, variable_names}
use Rattle.river_plan.specs.Faults.{IsNew}
use Rattle.river_plan.proofs.JudgeLemmas.{variable-again}
use Rattle.plan_check.proofs.declared.add_variables.Goals as goal

pub returns-in-Some-clause-fault : goal.returns-in-Some-clause-fault
returns-in-Some-clause-fault c =
    let p = plan_form c.args.raw.now in
    variable-again p c.in-Some.name c.requires.queues_once
    (subst (IsFirst IsNew (variable_names p)) c.in-Some.is
    (subst (λ ns. IsFirst IsNew ns c.in_ok-name.field-0) c.in_ok-names.ensures c.in_ok-name.ensures.first))
