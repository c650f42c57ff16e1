use Rattle.std.proofs.Common.{◌≡◌, ◌++◌, drop, map}
use Rattle.streamit_text.specs.Tree.{statement, in_turn}
use Rattle.text_tokens.specs.Spaced.{spaced}
use Rattle.params_text.specs.Toks.{statements_toks}
use Rattle.params_model.specs.Plain.{put_block}
use Rattle.params_print.proofs.statement.+statement.Given as goal

abbrev pub invariant-block-items : goal.invariant-block-items
invariant-block-items l =
    l.to ++ spaced (statements_toks (put_block l.known (in_turn (map statement (drop l.each-index l.each-items)))))
    ≡ l.initial.to ++ spaced (statements_toks (put_block l.known (in_turn (map statement l.each-items))))
