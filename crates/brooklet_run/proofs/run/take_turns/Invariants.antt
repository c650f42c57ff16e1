use Rattle.brooklet_step.specs.Drained.{RunsOn}
use Rattle.brooklet_run.proofs.run.take_turns.Given as goal

abbrev pub invariant-loop-port : goal.invariant-loop-port
invariant-loop-port l = RunsOn l.initial.machine l.machine
