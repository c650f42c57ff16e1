use Rattle.fire_tasks.proofs.PassLemmas.{SentTo}
use Rattle.fire_tasks.proofs.passing.send_all.Given as goal

abbrev pub invariant-loop-port : goal.invariant-loop-port
invariant-loop-port l = SentTo l.port l.initial.outs l.initial.pending l.outs l.pending l.moved
