-- The bounds of a loop of steps, and its turns.
use Rattle.std.specs.Prelude.{◌≡◌, ◌≤◌, ◌-◌, ℕ, ℤ, pos, Bool, true, false, ◌&&◌, Option, Some, None}
use Rattle.streamit_model.specs.Meaning.{numbers_from, turns_between}
use Rattle.params_model.specs.Making.{is_ranged}
use Rattle.params_front.specs.declared.span.Span.{Span}

-- a bound, where it is in range
abbrev pub IsRangedBound : Option ℕ → ℤ → Type 0
IsRangedBound None z = is_ranged z ≡ false
IsRangedBound (Some n) z = (is_ranged z ≡ true) × (z ≡ pos n) × (n ≤ 65536)

-- the turns, where both bounds are in range
abbrev pub Spans : Option Span → ℤ → Bool → ℤ → Type 0
Spans None low upto high = is_ranged low && is_ranged high ≡ false
Spans (Some s) low upto high = (is_ranged low && is_ranged high ≡ true) × (turns_between low upto high ≡ numbers_from s.low (s.end - s.low))
