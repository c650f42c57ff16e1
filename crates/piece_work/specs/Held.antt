-- What a name holds.
use Rattle.std.specs.Prelude.{ℕ, List, [], Option, None, Some}

-- the bytes that are held, or none
abbrev pub bytes_of : Option (List ℕ) → List ℕ
bytes_of None = []
bytes_of (Some bytes) = bytes
