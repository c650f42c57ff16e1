use Rattle.brooklet_step.specs.Drained.{RunsOn}
use Rattle.brooklet_run.proofs.run.run_round.Given as goal

abbrev pub invariant-loop-op : goal.invariant-loop-op
invariant-loop-op l = RunsOn l.initial.machine l.machine
