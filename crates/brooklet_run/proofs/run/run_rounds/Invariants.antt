use Rattle.brooklet_step.specs.Drained.{RunsOn}
use Rattle.brooklet_run.proofs.run.run_rounds.Given as goal

abbrev pub invariant-loop-round : goal.invariant-loop-round
invariant-loop-round l = RunsOn l.initial.machine l.machine
