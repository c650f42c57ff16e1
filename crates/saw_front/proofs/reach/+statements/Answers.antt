use Rattle.std.proofs.Common.{◌+◌, drop, map, arith, sym, ap, ◌∙◌}
use Rattle.std.specs.Prelude.{max}
use Rattle.river_base.proofs.Lists.{map_next, map_none}
use Rattle.saw_model.specs.Meaning.{reach_statement, reach_block}
use Rattle.saw_text.specs.Tree.{statement, in_turn}
use Rattle.saw_text.proofs.Trees.{block-is}
use Rattle.saw_front.proofs.Reaching.{so_far_next, so_far_end}
use Rattle.saw_front.proofs.reach.+statements.Goals as goal

pub reach_block-loop-s-preserved : goal.reach_block-loop-s-preserved
reach_block-loop-s-preserved t c =
    let items = c.as_slice-s-items.result.now in
    let i = c.loop-s.s-index in
    let s = c.s-item.result in
    so_far_next c.loop-s.most (reach_statement (statement s)) (reach_block (in_turn (map statement (drop (i + 1) items))))
    (reach_block (in_turn (map statement items))) c.greater-most.result
    (ap (λ l. max c.loop-s.most (reach_block (in_turn l))) (sym (map_next statement items i s (omega arith) c.s-item.is)) ∙ c.loop-s.invariant)
    (c.greater-most.ensures ∙ ap (max c.loop-s.most) c.reach_statement.ensures)

pub reach_block-returns : goal.reach_block-returns
reach_block-returns t c =
    let items = c.as_slice-s-items.result.now in
    so_far_end c.loop-s.most (reach_block (in_turn (map statement items)))
    (ap (λ l. max c.loop-s.most (reach_block (in_turn l))) (sym (map_none statement items c.loop-s.s-index (omega arith))) ∙ c.loop-s.invariant)
    ∙ ap (λ l. reach_block (in_turn (map statement l))) c.as_slice-s-items.ensures.value ∙ ap reach_block (sym (block-is c.args.b.now))
