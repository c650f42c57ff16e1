use Rattle.std.proofs.Common.{◌≡◌, ◌≤◌, drop}
use Rattle.text_tokens.specs.Lexis.{decimal_from, most}
use Rattle.text_tokens.proofs.piece.decimal.Given as goal

abbrev pub invariant-loop-n : goal.invariant-loop-n
invariant-loop-n l = record { same : decimal_from l.value (drop l.n l.digits) ≡ decimal_from 0 l.digits; small : l.value ≤ most }
