-- Values are the integers of 64 bits; sums, differences and products wrap.
use Rattle.std.specs.Prelude.{◌≡◌, ◌≢◌, ℕ, ℤ, pos, negsuc, ◌^◌, ◌-◌, ◌+ℤ◌, ◌-ℤ◌, ◌*ℤ◌, neg_ℤ, int_div, int_rem, if◌then◌else◌}
use Rattle.std.specs.Int.{int_wrap, w64}
use Rattle.std.specs.Int.RustNames.{FitsSigned}
use Rattle.std.specs.Ordering.{int_eq}

-- an integer from -2^63 to 2^63 - 1
abbrev pub IsValue : ℤ → Type 0
IsValue z = FitsSigned w64 z

-- the value that is equal to it modulo 2^64
abbrev pub wrap : ℤ → ℤ
wrap z = int_wrap w64 z

abbrev pub add : ℤ → ℤ → ℤ
add a b = wrap (a +ℤ b)

abbrev pub sub : ℤ → ℤ → ℤ
sub a b = wrap (a -ℤ b)

abbrev pub mul : ℤ → ℤ → ℤ
mul a b = wrap (a *ℤ b)

abbrev pub negate : ℤ → ℤ
negate a = wrap (neg_ℤ a)

-- truncated towards zero, and 0 where the divisor is 0
abbrev pub quot : ℤ → ℤ → ℤ
quot a b = if int_eq b (pos 0) then pos 0 else wrap (int_div a b)

-- with the sign of the left side, and 0 where the divisor is 0
abbrev pub rem : ℤ → ℤ → ℤ
rem a b = if int_eq b (pos 0) then pos 0 else int_rem a b

-- the least value, -2^63
abbrev pub least_value : ℤ
least_value = negsuc (2 ^ 63 - 1)

-- the quotient of integers, truncated towards zero, is a value: the divisor is not 0, and the least value is not divided by -1
pub record HasQuotient (a b : ℤ) : Type 0 where
  pub by_some : b ≢ pos 0
  pub below : a ≡ least_value → b ≢ negsuc 0

-- a number of ports, values or items: one below 0 counts as 0
abbrev pub count_of : ℤ → ℕ
count_of (pos n) = n
count_of (negsuc n) = 0
