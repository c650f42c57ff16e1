-- A count of faults with more of them.
use Rattle.std.specs.Prelude.{ℕ, ◌+◌, min}
use Rattle.river_outside.specs.Causes.{last}

-- so many faults, and more of them; the count stays at its last value
abbrev pub with_more : ℕ → ℕ → ℕ
with_more faults more = min (faults + more) last
