use Rattle.fire_tasks.proofs.Looking.{LookedTo}
use Rattle.fire_tasks.proofs.taking.first_ready.Given as goal

abbrev pub invariant-loop-port : goal.invariant-loop-port
invariant-loop-port l = LookedTo l.port l.initial.ins l.ins
