-- How many bytes the units of a text have.
use Rattle.std.specs.Prelude.{ℕ, ◌-◌, List, [], ◌∷◌, length, take, drop}
use Rattle.text_tokens.specs.Cut.{units_of}
use Rattle.text_tokens.specs.Tok.{Tok, Mark, toks}

-- where the last token ends
abbrev pub end_of_last : Mark → List Mark → ℕ
end_of_last m [] = m.end
end_of_last m (n ∷ ms) = end_of_last n ms

-- from the first byte of the first token to the last byte of the last
abbrev pub bytes_of : List Mark → ℕ
bytes_of [] = 0
bytes_of (m ∷ ms) = end_of_last m ms - m.start

-- of units that have the tokens one after another
abbrev pub bytes_of_each : List (List Tok) → List Mark → List ℕ
bytes_of_each [] marks = []
bytes_of_each (u ∷ us) marks = bytes_of (take (length u) marks) ∷ bytes_of_each us (drop (length u) marks)

-- of the units of a text that has these tokens
abbrev pub sizes_of : List Mark → List ℕ
sizes_of marks = bytes_of_each (units_of (toks marks)) marks
