-- What a sink took, where it tells it.
use Rattle.std.specs.Prelude.{◌≡◌, ℕ, ◌<◌, List, length, take, Option}
use Rattle.std.specs.Io.KnownBytes.{append_known}

-- a proper prefix of the bytes, and no more
abbrev pub TookPart : List ℕ → Option (List ℕ) → Option (List ℕ) → Type 0
TookPart bytes old new = (n : ℕ) × (n < length bytes) × (new ≡ append_known old (take n bytes))
