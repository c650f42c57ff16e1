use Rattle.fire_tasks.proofs.BundleLemmas.{LookedTo}
use Rattle.fire_tasks.proofs.bundle.all_done.Given as goal

abbrev pub invariant-loop-place : goal.invariant-loop-place
invariant-loop-place l = LookedTo l.place l.initial.tasks l.tasks
