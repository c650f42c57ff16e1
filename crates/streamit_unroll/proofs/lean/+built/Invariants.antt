use Rattle.std.proofs.Common.{◌≡◌, ◌+◌, ◌*◌, ◌++◌, map, take}
use Rattle.std.specs.Prelude.{max}
use Rattle.streamit_text.specs.Tree.{statement}
use Rattle.streamit_text.specs.declared.tree.Block.{size-Block}
use Rattle.streamit_text.proofs.Trees.{optional_size}
use Rattle.streamit_unroll.specs.Lean.{told}
use Rattle.streamit_unroll.proofs.lean.+built.Given as goal

abbrev pub decreases-lean_block : goal.decreases-lean_block
decreases-lean_block l = goal.size-lean_block l * 5 + 1

abbrev pub decreases-lean_optional : goal.decreases-lean_optional
decreases-lean_optional l = optional_size l.b.now * 5 + 2

abbrev pub decreases-add_block : goal.decreases-add_block
decreases-add_block l = goal.size-add_block l * 5

abbrev pub decreases-add : goal.decreases-add
decreases-add l = goal.size-add l * 5

abbrev pub decreases-branch : goal.decreases-branch
decreases-branch l = max (size-Block l.yes.now) (optional_size l.no.now) * 5 + 3

abbrev pub invariant-add_block-loop-s : goal.invariant-add_block-loop-s
invariant-add_block-loop-s l = told l.out ≡ told l.initial.out ++ map statement (take l.s-index l.s-items)
