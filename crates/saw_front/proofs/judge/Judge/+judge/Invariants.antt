use Rattle.std.proofs.Common.{◌+◌, ◌*◌, drop, map}
use Rattle.saw_text.specs.Tree.{statement}
use Rattle.saw_front.proofs.SoFar.{BlockSoFar}
use Rattle.saw_front.proofs.judge.Judge.+judge.Given as goal

abbrev pub decreases-block : goal.decreases-block
decreases-block l = goal.size-block l * 4

abbrev pub decreases-statement : goal.decreases-statement
decreases-statement l = goal.size-statement l * 4

abbrev pub decreases-arm : goal.decreases-arm
decreases-arm l = goal.size-arm l * 4 + 1

abbrev pub invariant-block-loop-s : goal.invariant-block-loop-s
invariant-block-loop-s l = BlockSoFar (map statement l.s-items) (map statement (drop l.s-index l.s-items)) l.initial.self l.self l.initial.out l.out

abbrev pub decreases-otherwise : goal.decreases-otherwise
decreases-otherwise l = goal.size-otherwise l * 4 + 2
