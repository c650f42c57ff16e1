use Rattle.fire_tasks.proofs.PassLemmas.{Goes}
use Rattle.fire_tasks.proofs.passing.send_port.Given as goal

abbrev pub invariant-loop-more : goal.invariant-loop-more
invariant-loop-more l = Goes l.port l.initial.outs l.initial.pending l.outs l.pending
