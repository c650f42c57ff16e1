use Rattle.std.proofs.Common.{◌≡◌, ◌++◌, drop}
use Rattle.text_tokens.specs.Spaced.{spaced}
use Rattle.params_text.specs.Toks.{other_toks}
use Rattle.params_print.specs.Heads.{names_written}
use Rattle.params_print.proofs.instance.adds.Given as goal

abbrev pub invariant-children : goal.invariant-children
invariant-children l =
    l.to ++ spaced (other_toks (names_written (drop l.each-index l.children))) ≡ l.initial.to ++ spaced (other_toks (names_written l.children))
