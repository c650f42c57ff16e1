-- When a count of faults rose.
use Rattle.std.specs.Prelude.{ℕ, ◌-◌, ◌^◌, ◌<◌, ◌≡◌, ◌⊎◌, Bool, IsTrue}

-- the last value of a counter of 64 bits
abbrev pub last : ℕ
last = 2 ^ 64 - 1

-- the count rose; or it is one that stays at its last value, which it had before and has now
abbrev pub Rose : Bool → ℕ → ℕ → Type 0
Rose stays_at_last before now = (before < now) ⊎ (IsTrue stays_at_last × (before ≡ last) × (now ≡ last))
