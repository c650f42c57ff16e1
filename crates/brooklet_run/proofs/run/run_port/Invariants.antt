use Rattle.brooklet_step.specs.Drained.{Follows}
use Rattle.brooklet_step.proofs.RunLemmas.{left_at}
use Rattle.brooklet_run.proofs.run.run_port.Given as goal

abbrev pub invariant-loop-alloc : goal.invariant-loop-alloc
invariant-loop-alloc l = Follows l.initial.machine l.machine l.op

abbrev pub decreases-loop-alloc : goal.decreases-loop-alloc
decreases-loop-alloc l = left_at l.machine l.op l.port
