use Rattle.std.proofs.Common.{◌+◌, map, drop, sym, ap, ◌∙◌, arith}
use Rattle.streamit_text.specs.Tree.{statement, in_turn}
use Rattle.streamit_text.proofs.Trees.{block-is}
use Rattle.params_model.specs.Judged.{Judgement, judged_then, statement_judged, block_judged}
use Rattle.params_build.proofs.Judging.{passed-over, from-place, at-end}
use Rattle.params_build.proofs.filter.+judged.Goals as goal

pub block-items-preserved : goal.block-items-preserved
block-items-preserved t c =
    let ps = c.args.params.now in
    let items = c.as_slice-each-items.result.now in
    let i = c.items.each-index in
    λ k. sym (passed-over (statement_judged k ps (statement c.each-item.result)) _ (c.in-Ok.ensures k))
    ∙ sym (from-place k ps items i c.each-item.result (omega arith) c.each-item.is) ∙ c.items.invariant k

pub block-returns : goal.block-returns
block-returns t c =
    let ps = c.args.params.now in
    let items = c.as_slice-each-items.result.now in
    λ k. rw (block-is c.args.all.now, ← c.as_slice-each-items.ensures.value) (sym (c.items.invariant k) ∙ at-end k ps items c.items.each-index (omega arith))

pub block-returns-in-Err : goal.block-returns-in-Err
block-returns-in-Err t c =
    let ps = c.args.params.now in
    let items = c.as_slice-each-items.result.now in
    let i = c.items.each-index in
    λ k. rw (block-is c.args.all.now, ← c.as_slice-each-items.ensures.value)
    (sym (c.items.invariant k) ∙ from-place k ps items i c.each-item.result (omega arith) c.each-item.is
    ∙ ap (λ (j : Judgement). judged_then j (block_judged k ps (in_turn (map statement (drop (i + 1) items))))) (c.in-Err.ensures k))
