-- What a fetch answers over a shelf that tells what it holds.
use Rattle.std.specs.Prelude.{◌≡◌, ◌⊎◌, ℕ, ◌<◌, ◌≤◌, List, length, Option, None, Some, Result, Ok, Err, nat_lt, if◌then◌else◌}
use Rattle.river_outside.specs.declared.fetching.FetchFault.{FetchFault}
use Rattle.river_outside.specs.declared.fetching.FetchFault.TheVariants as fault

-- the bytes are held and within the limit
abbrev pub FetchesAll : Option (List ℕ) → ℕ → List ℕ → Type 0
FetchesAll None limit bytes = ⊥
FetchesAll (Some held) limit bytes = (bytes ≡ held) × (length held ≤ limit)

-- more bytes are held than the limit
abbrev pub IsLarger : Option (List ℕ) → ℕ → Type 0
IsLarger None limit = ⊥
IsLarger (Some held) limit = limit < length held

-- the answer that the held bytes and the limit determine, or want of memory
abbrev pub FetchesExactly : Option (List ℕ) → ℕ → Result (List ℕ) FetchFault → Type 0
FetchesExactly None limit result = (result ≡ Err fault.Absent) ⊎ (result ≡ Err fault.NoMemory)
FetchesExactly (Some held) limit result = (result ≡ (if nat_lt limit (length held) then Err fault.Large else Ok held)) ⊎ (result ≡ Err fault.NoMemory)
