use Rattle.std.proofs.Common.{[], Some, None, List, subst}
use Rattle.river_plan.specs.declared.op.Op.{Op}
use Rattle.river_plan.specs.Forms.{op_forms}
use Rattle.river_plan.specs.First.{Along}
use Rattle.river_plan.specs.Faults.{UndeclaredAt}
use Rattle.plan_check.proofs.Remains.{remains_by-start, remains_by-next, remains_by-found, remains_by-end}
use Rattle.plan_check.proofs.declared.undeclared_in.Goals as goal

pub loop-op-init : goal.loop-op-init
loop-op-init c = remains_by-start _ _ _

pub loop-op-preserved : goal.loop-op-preserved
loop-op-preserved c = remains_by-next _ _ _ _ _ c.loop-op-test.true c.op-item.is c.in_default.ensures c.loop-op.invariant

pub returns-in-Some : goal.returns-in-Some
returns-in-Some c =
    subst (λ (l : List Op). Along (λ before op. UndeclaredAt c.args.queues.now c.args.variables.now op) [] (op_forms l)
    (Some c.in-Some.named)) c.as_slice-op-items.ensures
    (remains_by-found _ _ _ _ _ _ c.loop-op-test.true c.op-item.is c.in-Some.ensures c.loop-op.invariant)

pub returns : goal.returns
returns c =
    subst (λ (l : List Op). Along (λ before op. UndeclaredAt c.args.queues.now c.args.variables.now op) [] (op_forms l) None) c.as_slice-op-items.ensures
    (remains_by-end _ _ _ _ c.loop-op-test.false c.loop-op.invariant)
