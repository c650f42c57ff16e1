use Rattle.std.proofs.Common.{◌≡◌, pos, map, take}
use Rattle.fire_tasks.specs.declared.task.Task.{Task}
use Rattle.fire_run.proofs.closing.counts_of.Given as goal

abbrev pub invariant-loop-task : goal.invariant-loop-task
invariant-loop-task l = l.counts ≡ map (λ (t : Task). pos t.count) (take l.task-index l.task-items)
