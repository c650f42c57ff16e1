use Rattle.fire_run.proofs.GatherLemmas.{Gathering}
use Rattle.fire_run.proofs.joining.gather.Given as goal

abbrev pub invariant-loop-place : goal.invariant-loop-place
invariant-loop-place l = Gathering l.initial.bundles.items l.initial.tasks l.place l.bundles.items l.tasks
