use Rattle.slow_streamit.proofs.Streams.{PlaceSoFar}
use Rattle.slow_streamit.proofs.program.place.Given as goal

abbrev pub invariant-loop-i : goal.invariant-loop-i
invariant-loop-i l = PlaceSoFar l.above l.name l.i

abbrev pub decreases-loop-i : goal.decreases-loop-i
decreases-loop-i l = l.i
