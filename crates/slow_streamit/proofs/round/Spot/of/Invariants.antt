use Rattle.slow_streamit.proofs.Rounds.{SpotSoFar}
use Rattle.slow_streamit.proofs.round.Spot.of.Given as goal

abbrev pub invariant-loop-branch : goal.invariant-loop-branch
invariant-loop-branch l = SpotSoFar l.weights l.place l.branch l.left
