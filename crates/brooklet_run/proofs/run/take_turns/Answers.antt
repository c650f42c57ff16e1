use Rattle.brooklet_step.proofs.RunLemmas.{runs_none, runs_more}
use Rattle.brooklet_run.proofs.run.take_turns.Goals as goal

pub loop-port-init : goal.loop-port-init
loop-port-init c = runs_none c.args.machine.now c.requires.running

pub loop-port-preserved : goal.loop-port-preserved
loop-port-preserved c = runs_more c.args.machine.now c.loop-port.machine c.turn.new.self c.loop-port.invariant c.in_ok-turn.ensures.ran
