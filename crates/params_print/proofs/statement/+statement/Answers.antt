use Rattle.std.proofs.Common.{◌++◌, map, drop, sym, ap, ◌∙◌, arith}
use Rattle.std.proofs.lemmas.Result.{on_ok_weaker}
use Rattle.streamit_text.specs.Tree.{expression, statement, block, optional_block}
use Rattle.streamit_text.proofs.Trees.{block-is, statement-if}
use Rattle.text_tokens.specs.Spaced.{spaced}
use Rattle.params_text.specs.Toks.{statement_toks, block_toks, else_toks}
use Rattle.params_model.specs.Plain.{put_in, put_statement, put_block, put_optional}
use Rattle.params_print.specs.Heads.{if_toks}
use Rattle.params_print.proofs.Blocks.{listed, listed-next, listed-end, part-more, block-closed, three-parts}
use Rattle.params_print.proofs.statement.+statement.Goals as goal

pub block-items-preserved : goal.block-items-preserved
block-items-preserved t c =
    let env = c.args.known.now in
    let items = c.as_slice-each-items.result.now in
    let i = c.items.each-index in
    let one = c.each-item.result in
    part-more c.items.to c.statement.new.to (spaced (statement_toks (put_statement env (statement one)))) (listed env (map statement (drop i items))) _ _
    c.items.invariant c.in_ok-statement.ensures (listed-next env items i one (omega arith) c.each-item.is)

pub block-returns : goal.block-returns
block-returns t c =
    let env = c.args.known.now in
    let items = c.as_slice-each-items.result.now in
    let i = c.items.each-index in
    rw (block-is c.args.all.now, ← c.as_slice-each-items.ensures.value)
    (on_ok_weaker c.tokens-2.result (λ last.
    block-closed env (map statement items) c.args.to.now c.tokens.new.to c.items.to c.tokens-2.new.to (listed env (map statement (drop i items)))
    c.in_ok-tokens.ensures c.items.invariant (listed-end env items i (omega arith)) last)
    c.tokens-2.ensures)

pub statement-returns-in_ok-block-in-If : goal.statement-returns-in_ok-block-in-If
statement-returns-in_ok-block-in-If t c =
    let env = c.args.known.now in
    let cond = c.in-If.cond in
    let yes = c.in-If.yes in
    let no = c.in-If.no in
    on_ok_weaker c.otherwise.result (λ third.
    three-parts (if_toks (put_in env (expression cond))) (block_toks (put_block env (block yes))) (else_toks (put_optional env (optional_block no)))
    c.args.to.now c.condition.new.to c.block.new.to c.otherwise.new.to c.in_ok-condition-in-If.ensures c.in_ok-block-in-If.ensures third
    ∙ ap (λ s. c.args.to.now ++ spaced (statement_toks (put_statement env s))) (sym (ap statement c.in-If.is ∙ statement-if cond yes no)))
    c.otherwise.ensures
