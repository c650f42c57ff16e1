use Rattle.brooklet_step.proofs.RunLemmas.{runs_none, runs_more}
use Rattle.brooklet_run.proofs.run.run_rounds.Goals as goal

pub loop-round-init : goal.loop-round-init
loop-round-init c = runs_none c.args.machine.now c.requires.running

pub loop-round-preserved : goal.loop-round-preserved
loop-round-preserved c = runs_more c.args.machine.now c.loop-round.machine c.run_round.new.machine c.loop-round.invariant c.in_ok-run_round.ensures
