use Rattle.slow_streamit.proofs.Rounds.{CollectedSoFar}
use Rattle.slow_streamit.proofs.round.collected.Given as goal

abbrev pub invariant-loop-x : goal.invariant-loop-x
invariant-loop-x l = CollectedSoFar l.weights l.branches l.size l.x l.out
