use Rattle.std.proofs.Common.{◌+◌, ◌*◌, drop, map}
use Rattle.std.specs.Prelude.{max}
use Rattle.streamit_unroll.specs.declared.lean.LeanBlock.{size-LeanBlock}
use Rattle.streamit_unroll.specs.Lean.{flat, lean, lean_block}
use Rattle.streamit_unroll.proofs.Items.{EachWritten}
use Rattle.streamit_unroll.proofs.Leans.{optional_size}
use Rattle.streamit_unroll.proofs.SoFar.{BlockSoFar, TurnsSoFar}
use Rattle.streamit_unroll.proofs.unroll.Unroller.+unroll.Given as goal

abbrev pub decreases-block : goal.decreases-block
decreases-block l = goal.size-block l * 4

abbrev pub decreases-statement : goal.decreases-statement
decreases-statement l = goal.size-statement l * 4

abbrev pub decreases-branch : goal.decreases-branch
decreases-branch l = max (size-LeanBlock l.yes.now) (optional_size l.no.now) * 4 + 3

abbrev pub decreases-otherwise : goal.decreases-otherwise
decreases-otherwise l = optional_size l.no.now * 4 + 2

abbrev pub decreases-arm : goal.decreases-arm
decreases-arm l = goal.size-arm l * 4 + 1

abbrev pub decreases-turns : goal.decreases-turns
decreases-turns l = goal.size-turns l * 4 + 2

abbrev pub decreases-turn : goal.decreases-turn
decreases-turn l = goal.size-turn l * 4 + 1

abbrev pub invariant-block-loop-s : goal.invariant-block-loop-s
invariant-block-loop-s l = record {
  so_far : BlockSoFar l.peek (flat (map lean l.s-items)) (flat (map lean (drop l.s-index l.s-items))) l.initial.self l.self l.initial.out l.out;
  each : EachWritten (map lean (drop l.s-index l.s-items));
}

abbrev pub invariant-turns-loop-v : goal.invariant-turns-loop-v
invariant-turns-loop-v l = TurnsSoFar l.peek (lean_block l.b) l.name l.fn.span.low l.v l.fn.span.end l.initial.self l.self l.initial.out l.out
