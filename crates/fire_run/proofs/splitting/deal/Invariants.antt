use Rattle.fire_run.proofs.ShareLemmas.{Dealing}
use Rattle.fire_run.proofs.splitting.deal.Given as goal

abbrev pub invariant-loop-seat : goal.invariant-loop-seat
invariant-loop-seat l = Dealing l.workers l.fn.tasks l.tasks l.fn.seats.items l.seats.items l.bundles.items

abbrev pub decreases-loop-seat : goal.decreases-loop-seat
decreases-loop-seat l = goal.left-loop-seat l
