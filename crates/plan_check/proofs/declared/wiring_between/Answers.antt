use Rattle.std.proofs.Common.{None, Some, subst}
use Rattle.river_plan.specs.First.{IsFirst}
use Rattle.river_plan.specs.Forms.{plan_form, labels}
use Rattle.river_plan.specs.Faults.{IsNew}
use Rattle.river_plan.proofs.JudgeLemmas.{label-again, names-once, undeclared-among, undeclared-first}
use Rattle.plan_check.proofs.declared.wiring_between.Goals as goal

pub returns-in-Some-clause-fault : goal.returns-in-Some-clause-fault
returns-in-Some-clause-fault c =
    let p = plan_form c.args.raw.now in
    label-again p c.in-Some.label c.requires.queues_once
    c.requires.variables_once
    (subst (IsFirst IsNew (labels p.ops)) c.in-Some.is c.in_ok-label.ensures)

pub returns-in-Some-undeclared_in-clause-fault : goal.returns-in-Some-undeclared_in-clause-fault
returns-in-Some-undeclared_in-clause-fault c =
    let p = plan_form c.args.raw.now in
    undeclared-first p c.in-Some-undeclared_in.named
    (names-once p c.requires.queues_once
    c.requires.variables_once
    (subst (IsFirst IsNew (labels p.ops)) c.in_default.is c.in_ok-label.ensures))
    (undeclared-among p c.args.queues.now c.args.variables.now c.requires.queues c.requires.variables
    (Some c.in-Some-undeclared_in.named) c.in-Some-undeclared_in.ensures)

pub returns-clause-named : goal.returns-clause-named
returns-clause-named c =
    let p = plan_form c.args.raw.now in (
      names-once p c.requires.queues_once
          c.requires.variables_once
          (subst (IsFirst IsNew (labels p.ops)) c.in_default.is c.in_ok-label.ensures),
      undeclared-among p c.args.queues.now c.args.variables.now c.requires.queues c.requires.variables None c.in_default-undeclared_in.ensures,
    )
