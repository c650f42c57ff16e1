use Rattle.std.proofs.Common.{◌∙◌}
use Rattle.brooklet_step.proofs.RunLemmas.{all_next, plan_valid}
use Rattle.brooklet_run.proofs.run.drain_all.Goals as goal

pub run_op-requires-clause-valid : goal.run_op-requires-clause-valid
run_op-requires-clause-valid c = plan_valid c.loop-op.machine.plan c.args.plan.now (c.loop-op.invariant.plan ∙ c.requires.plan) c.requires.valid

pub loop-op-preserved : goal.loop-op-preserved
loop-op-preserved c =
    all_next c.args.machine.now c.loop-op.machine c.run_op.new.machine c.args.plan.now c.loop-op.op c.port_count-ports.result c.requires.plan
    c.loop-op.invariant c.in_ok-run_op.ensures.follows c.port_count-ports.ensures c.in_ok-run_op.ensures.drained
