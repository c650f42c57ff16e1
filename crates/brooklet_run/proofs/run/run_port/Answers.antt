use Rattle.brooklet_step.proofs.RunLemmas.{follows_step, follows_none, follows_more, step_less, plan_valid}
use Rattle.brooklet_run.proofs.run.run_port.Goals as goal

pub loop-alloc-init : goal.loop-alloc-init
loop-alloc-init c = follows_none c.args.machine.now c.args.op c.requires.running

pub loop-alloc-smaller : goal.loop-alloc-smaller
loop-alloc-smaller c =
    step_less c.loop-alloc.machine c.step.new.self c.args.op c.args.port c.requires.ran.inputs
    (plan_valid c.loop-alloc.machine.plan c.args.machine.now.plan c.loop-alloc.invariant.plan c.requires.valid)
    (c.loop-alloc.invariant.ran c.requires.ran.inputs c.requires.ran.ran) (c.enabled.ensures.0 c.loop-alloc-test.true) c.in_ok-step.ensures.fired

pub loop-alloc-preserved : goal.loop-alloc-preserved
loop-alloc-preserved c =
    follows_more c.args.machine.now c.loop-alloc.machine c.step.new.self c.args.op c.loop-alloc.invariant
    (follows_step c.loop-alloc.machine c.step.new.self c.args.op c.args.port
    (plan_valid c.loop-alloc.machine.plan c.args.machine.now.plan c.loop-alloc.invariant.plan c.requires.valid) c.in_ok-step.ensures.fired)
