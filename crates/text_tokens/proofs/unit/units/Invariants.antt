use Rattle.std.proofs.Common.{◌≡◌, ◌-◌, ◌≤◌, ◌++◌, drop, length}
use Rattle.text_tokens.specs.Cut.{units_of}
use Rattle.text_tokens.specs.Tok.{tokens_of}
use Rattle.text_tokens.proofs.unit.units.Given as goal

abbrev pub invariant-loop-at : goal.invariant-loop-at
invariant-loop-at l =
    record { same : l.units ++ units_of (tokens_of (drop l.at l.lexemes)) ≡ units_of (tokens_of l.lexemes); in_text : l.at ≤ length l.lexemes }

abbrev pub decreases-loop-at : goal.decreases-loop-at
decreases-loop-at l = length l.lexemes - l.at
