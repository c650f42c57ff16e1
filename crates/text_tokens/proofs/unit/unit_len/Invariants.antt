use Rattle.std.proofs.Common.{◌≡◌, ◌+◌, ◌≤◌, drop}
use Rattle.text_tokens.specs.Cut.{unit_len}
use Rattle.text_tokens.specs.Tok.{tokens_of}
use Rattle.text_tokens.proofs.unit.unit_len.Given as goal

abbrev pub invariant-loop-n : goal.invariant-loop-n
invariant-loop-n l = record { same : l.n + unit_len l.braces (tokens_of (drop l.n l.lexemes)) ≡ unit_len 0 (tokens_of l.lexemes); few : l.braces ≤ l.n }
