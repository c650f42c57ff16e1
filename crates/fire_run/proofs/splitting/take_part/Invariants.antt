use Rattle.fire_run.proofs.ShareLemmas.{Taking}
use Rattle.fire_run.proofs.splitting.take_part.Given as goal

abbrev pub invariant-loop-place : goal.invariant-loop-place
invariant-loop-place l = Taking l.workers l.part l.initial.tasks l.place l.tasks l.own
