-- Numbers in the names of a plan. They have no bound; those below 2^64 are written as programs write numbers.
use Rattle.std.specs.Prelude.{ℕ, zero, suc, ◌+◌, ◌/◌, ◌%◌, nat_lt, List, [], ◌∷◌, ◌++◌, if◌then◌else◌}

-- the digits of a number; of one with more digits than this, the last
abbrev pub last_digits : ℕ → ℕ → List ℕ
last_digits zero n = []
last_digits (suc k) n = if nat_lt n 10 then (48 + n) ∷ [] else last_digits k (n / 10) ++ (48 + n % 10) ∷ []

-- a number in decimal; n has at most n + 1 digits
unfoldable pub numeral : ℕ → List ℕ
numeral n = last_digits (n + 1) n
