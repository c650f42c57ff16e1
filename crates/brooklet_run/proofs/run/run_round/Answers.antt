use Rattle.std.proofs.Common.{◌∙◌}
use Rattle.brooklet_step.proofs.RunLemmas.{runs_none, runs_more, plan_valid}
use Rattle.brooklet_run.proofs.run.run_round.Goals as goal

pub loop-op-init : goal.loop-op-init
loop-op-init c = runs_none c.args.machine.now c.requires.running

pub take_turns-requires-clause-valid : goal.take_turns-requires-clause-valid
take_turns-requires-clause-valid c = plan_valid c.loop-op.machine.plan c.args.plan.now (c.loop-op.invariant.plan ∙ c.requires.plan) c.requires.valid

pub loop-op-preserved : goal.loop-op-preserved
loop-op-preserved c = runs_more c.args.machine.now c.loop-op.machine c.take_turns.new.machine c.loop-op.invariant c.in_ok-take_turns.ensures
