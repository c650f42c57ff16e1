use Rattle.slow_streamit.proofs.Rounds.{DealtSoFar}
use Rattle.slow_streamit.proofs.round.dealt.Given as goal

abbrev pub invariant-loop-x : goal.invariant-loop-x
invariant-loop-x l = DealtSoFar l.weights l.branch l.items l.x l.out
