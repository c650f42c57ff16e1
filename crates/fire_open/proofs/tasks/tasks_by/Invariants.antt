use Rattle.fire_open.proofs.TakenLemmas.{TasksSoFar}
use Rattle.fire_open.proofs.tasks.tasks_by.Given as goal

abbrev pub invariant-loop-op : goal.invariant-loop-op
invariant-loop-op l = TasksSoFar l.plan l.initial.queues l.kinds l.op l.tasks l.queues
