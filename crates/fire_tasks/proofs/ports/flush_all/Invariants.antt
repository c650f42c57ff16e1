use Rattle.fire_tasks.specs.Ports.{Flushed}
use Rattle.fire_tasks.proofs.ports.flush_all.Given as goal

abbrev pub invariant-loop-port : goal.invariant-loop-port
invariant-loop-port l = Flushed l.initial.outs l.pending l.outs
