use Rattle.std.proofs.Common.{◌≡◌, ◌+◌, ◌*◌, drop, map}
use Rattle.std.specs.Prelude.{max}
use Rattle.saw_model.specs.Meaning.{reach_block}
use Rattle.saw_text.specs.Tree.{statement, in_turn}
use Rattle.saw_front.proofs.reach.+statements.Given as goal

abbrev pub decreases-reach_statement : goal.decreases-reach_statement
decreases-reach_statement l = goal.size-reach_statement l * 2

abbrev pub decreases-reach_block : goal.decreases-reach_block
decreases-reach_block l = goal.size-reach_block l * 2

abbrev pub decreases-reach_else : goal.decreases-reach_else
decreases-reach_else l = goal.size-reach_else l * 2 + 1

abbrev pub invariant-reach_block-loop-s : goal.invariant-reach_block-loop-s
invariant-reach_block-loop-s l = max l.most (reach_block (in_turn (map statement (drop l.s-index l.s-items)))) ≡ reach_block (in_turn (map statement l.s-items))
