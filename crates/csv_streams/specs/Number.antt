-- The number that a field of a file writes: spaces, an optional sign, digits, and spaces.
use Rattle.std.specs.Prelude.{ℕ, ℤ, pos, neg_ℤ, ◌+◌, ◌-◌, ◌*◌, ◌^◌, ◌==◌, min, nat_lt, nat_le, List, [], ◌∷◌, Bool, true, false, ◌&&◌, not, Option, None, Some}
use Rattle.std.specs.Prelude.{option_and_then, if◌then◌else◌}
use Rattle.std.specs.List.{list_all}
use Rattle.river_base.specs.Name.{is_digit}

-- the byte of a space; no other byte is one
abbrev pub is_space : ℕ → Bool
is_space c = c == 32

-- the text from its first byte on that is no space
abbrev pub after_spaces : List ℕ → List ℕ
after_spaces [] = []
after_spaces (c ∷ cs) = if is_space c then after_spaces cs else c ∷ cs

-- the digits at the front
abbrev pub digits_of : List ℕ → List ℕ
digits_of [] = []
digits_of (c ∷ cs) = if is_digit c then c ∷ digits_of cs else []

-- the text from its first byte on that is no digit
abbrev pub after_digits : List ℕ → List ℕ
after_digits [] = []
after_digits (c ∷ cs) = if is_digit c then after_digits cs else c ∷ cs

-- the number that digits write after those of n
abbrev pub value_after : ℕ → List ℕ → ℕ
value_after n [] = n
value_after n (d ∷ ds) = value_after (10 * n + (d - 48)) ds

-- there is none
abbrev pub is_nothing : List ℕ → Bool
is_nothing [] = true
is_nothing (c ∷ cs) = false

-- the number that one or more digits, and then spaces alone, write
abbrev pub whole_number : List ℕ → Option ℕ
whole_number text =
    if not (is_nothing (digits_of text)) && list_all is_space (after_digits text)
    then Some (value_after 0 (digits_of text)) else None

-- a number without its sign as a value, which is at most 2^63 - 1
abbrev pub positive : ℕ → Option ℤ
positive n = if nat_lt n (2 ^ 63) then Some (pos n) else None

-- and with a minus, which is at least -2^63
abbrev pub negative : ℕ → Option ℤ
negative n = if nat_le n (2 ^ 63) then Some (neg_ℤ (pos n)) else None

-- the value of a sign, if there is one, and what follows at once
abbrev pub signed_number : List ℕ → Option ℤ
signed_number [] = None
signed_number (c ∷ cs) =
    if c == 45 then option_and_then negative (whole_number cs)
    else if c == 43 then option_and_then positive (whole_number cs)
    else option_and_then positive (whole_number (c ∷ cs))

-- the value of a field
abbrev pub number_in : List ℕ → Option ℤ
number_in field = signed_number (after_spaces field)

-- a number of 64 bits that stands for it: itself, or the greatest, which is no value either
abbrev pub capped : ℕ → ℕ
capped n = min n (2 ^ 64 - 1)
