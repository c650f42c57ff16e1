use Rattle.std.proofs.Common.{length}
use Rattle.work_code.specs.Term.{term}
use Rattle.kern_bags.proofs.JoinedPairs.{JoinedSoFar}
use Rattle.kern_bags.proofs.cross.CrossState.pass_pairs_where.Given as goal

abbrev pub invariant-loop-left : goal.invariant-loop-left
invariant-loop-left l = JoinedSoFar (term l.cond) l.initial.self l.self l.initial.out l.out

abbrev pub decreases-loop-left : goal.decreases-loop-left
decreases-loop-left l = length l.self.left
