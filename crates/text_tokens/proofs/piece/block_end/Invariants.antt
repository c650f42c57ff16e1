use Rattle.std.proofs.Common.{◌≡◌, drop}
use Rattle.text_tokens.specs.Lexis.{block_end}
use Rattle.text_tokens.proofs.piece.block_end.Given as goal

abbrev pub invariant-loop-n : goal.invariant-loop-n
invariant-loop-n l = block_end l.n (drop l.n l.text) ≡ block_end 2 (drop 2 l.text)
