use Rattle.std.proofs.Common.{◌≡◌, ◌≤◌, ◌-◌, drop, length}
use Rattle.std.specs.Prelude.{map}
use Rattle.text_tokens.specs.Lexis.{marks}
use Rattle.text_tokens.specs.Tok.{mark_of}
use Rattle.text_tokens.proofs.Marks.{after_marks}
use Rattle.text_tokens.proofs.lexer.lex.Given as goal

abbrev pub invariant-loop-at : goal.invariant-loop-at
invariant-loop-at l =
    record { same : after_marks (map mark_of l.lexemes.items) (marks 0 l.at (drop l.at l.source)) ≡ marks 0 0 l.source; in_text : l.at ≤ length l.source }

abbrev pub decreases-loop-at : goal.decreases-loop-at
decreases-loop-at l = length l.source - l.at
