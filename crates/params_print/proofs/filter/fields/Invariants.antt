use Rattle.std.proofs.Common.{◌≡◌, ◌++◌, drop}
use Rattle.text_tokens.specs.Spaced.{spaced}
use Rattle.params_text.specs.Toks.{fields_toks}
use Rattle.params_print.proofs.filter.fields.Given as goal

abbrev pub invariant-names : goal.invariant-names
invariant-names l = l.to ++ spaced (fields_toks (drop l.each-index l.names)) ≡ l.initial.to ++ spaced (fields_toks l.names)
