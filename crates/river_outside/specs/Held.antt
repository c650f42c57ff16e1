-- What a shelf that tells what it holds says of a name.
use Rattle.std.specs.Prelude.{◌≡◌, ℕ, ◌-◌, ◌≤◌, List, [], take, drop, length, Option, None, Some}

-- the bytes that are held under each name
abbrev pub Held : Type 0
Held = List ℕ → Option (List ℕ)

-- n bytes of the piece are those that are held from a place on
abbrev pub ReadsHeld : Option (List ℕ) → ℕ → ℕ → List ℕ → Type 0
ReadsHeld None at n piece = ⊥
ReadsHeld (Some bytes) at n piece = (take n piece ≡ take n (drop at bytes)) × (n ≤ length bytes - at)

-- there are bytes, and no more of them from a place on
abbrev pub EndsBy : Option (List ℕ) → ℕ → Type 0
EndsBy None at = ⊥
EndsBy (Some bytes) at = length bytes ≤ at

-- these bytes are the front of those that are held
abbrev pub IsStartOfHeld : Option (List ℕ) → List ℕ → Type 0
IsStartOfHeld None got = got ≡ []
IsStartOfHeld (Some bytes) got = (take (length got) bytes ≡ got) × (length got ≤ length bytes)
