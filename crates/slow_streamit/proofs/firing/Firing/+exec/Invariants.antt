use Rattle.std.proofs.Common.{◌+◌, ◌*◌, drop, map}
use Rattle.std.specs.Prelude.{max}
use Rattle.streamit_model.specs.Meaning.{exec_all}
use Rattle.streamit_text.specs.declared.tree.Block.{size-Block}
use Rattle.streamit_text.proofs.Trees.{optional_size}
use Rattle.streamit_text.specs.Tree.{statement, block}
use Rattle.slow_streamit.specs.Firing.{firing_state}
use Rattle.slow_streamit.proofs.Blocks.{BlockSoFar, TurnsSoFar}
use Rattle.slow_streamit.proofs.firing.Firing.+exec.Given as goal

abbrev pub decreases-block : goal.decreases-block
decreases-block l = goal.size-block l * 5

abbrev pub decreases-optional : goal.decreases-optional
decreases-optional l = optional_size l.b.now * 5 + 1

abbrev pub decreases-statement : goal.decreases-statement
decreases-statement l = goal.size-statement l * 5

abbrev pub decreases-branch : goal.decreases-branch
decreases-branch l = max (size-Block l.yes.now) (optional_size l.no.now) * 5 + 2

abbrev pub decreases-repeat : goal.decreases-repeat
decreases-repeat l = size-Block l.body.now * 5 + 2

abbrev pub decreases-turns : goal.decreases-turns
decreases-turns l = size-Block l.body.now * 5 + 1

abbrev pub invariant-block-loop-s : goal.invariant-block-loop-s
invariant-block-loop-s l = BlockSoFar l.items (map statement l.s-items) (map statement (drop l.s-index l.s-items)) (firing_state l.initial.self) (firing_state l.self)

abbrev pub invariant-turns-loop-v : goal.invariant-turns-loop-v
invariant-turns-loop-v l = TurnsSoFar (exec_all (block l.body) l.items) l.name l.low l.v l.end (firing_state l.initial.self) (firing_state l.self)
