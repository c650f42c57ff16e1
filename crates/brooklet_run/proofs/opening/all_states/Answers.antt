use Rattle.std.proofs.Common.{List, subst, sym}
use Rattle.river_plan.specs.declared.op.Op.{Op}
use Rattle.river_plan.specs.Forms.{op_forms}
use Rattle.brooklet_step.specs.Initial.{CanStart}
use Rattle.brooklet_step.proofs.StartLemmas.{can_start_at, first_next}
use Rattle.brooklet_run.proofs.opening.all_states.Goals as goal

pub states_of-requires : goal.states_of-requires
states_of-requires c =
    can_start_at c.as_slice-op-items.result.now c.loop-op.op-index c.op-item.result
    (subst (λ (l : List Op). CanStart (op_forms l)) (sym c.as_slice-op-items.ensures) c.requires) c.loop-op-test.true c.op-item.is

pub loop-op-preserved : goal.loop-op-preserved
loop-op-preserved c =
    first_next c.as_slice-op-items.result.now c.loop-op.op-index c.op-item.result c.loop-op.all c.push.new.self c.in_ok-states.states c.loop-op-test.true
    c.op-item.is c.loop-op.invariant c.in_ok-states.ensures c.in_ok-push.ensures.ok
