use Rattle.std.proofs.Common.{◌≡◌, ◌++◌, drop, map}
use Rattle.text_tokens.specs.Tok.{token_of}
use Rattle.text_tokens.specs.Spaced.{spaced}
use Rattle.params_print.proofs.token.tokens.Given as goal

abbrev pub invariant-all : goal.invariant-all
invariant-all l = l.to ++ spaced (map token_of (drop l.each-index l.all)) ≡ l.initial.to ++ spaced (map token_of l.all)
