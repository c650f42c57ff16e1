use Rattle.brooklet_step.specs.Drained.{DrainedBefore}
use Rattle.brooklet_run.proofs.run.drain_all.Given as goal

abbrev pub invariant-loop-op : goal.invariant-loop-op
invariant-loop-op l = DrainedBefore l.initial.machine l.machine l.op
