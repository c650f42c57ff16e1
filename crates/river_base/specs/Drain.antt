-- Passing on what is in front, for as long as something is.
use Rattle.std.specs.Prelude.{ℕ, zero, suc, List, [], ◌++◌, Option, Some, None}

-- what is in front is passed, and then what `next` passes of the rest
abbrev pub pass_on : {X S : Type 0} → (S → S) → S → (S → List X × S) → Option (List X) → List X × S
pass_on rest s next None = ([], s)
pass_on rest s next (Some o) = let d = next (rest s) in (o ++ d.0, d.1)

-- what is passed, at most n times, and what is left. `front` is what is passed next, `rest` what is left without it
abbrev pub drain : {X S : Type 0} → (S → Option (List X)) → (S → S) → ℕ → S → List X × S
drain front rest zero s = ([], s)
drain front rest (suc n) s = pass_on rest s (drain front rest n) (front s)
