use Rattle.std.specs.Prelude.{length}
use Rattle.fire_run.proofs.GatherLemmas.{Putting}
use Rattle.fire_run.proofs.joining.put_back.Given as goal

abbrev pub invariant-loop-task : goal.invariant-loop-task
invariant-loop-task l = Putting l.fn.own l.fn.tasks l.own l.tasks

abbrev pub decreases-loop-task : goal.decreases-loop-task
decreases-loop-task l = length l.own
