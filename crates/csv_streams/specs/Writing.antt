-- Which fields write a value, as a form: spaces, an optional sign, one or more digits, and spaces.
use Rattle.std.specs.Prelude.{◌≡◌, ◌⊎◌, ⊤, ℕ, ℤ, pos, neg_ℤ, ◌^◌, ◌<◌, ◌≤◌, List, [], ◌∷◌, ◌++◌, length, codes, Some}
use Rattle.csv_streams.specs.Number.{value_after, number_in}

-- spaces alone
abbrev pub AllSpaces : List ℕ → Type 0
AllSpaces [] = ⊤
AllSpaces (c ∷ cs) = (c ≡ 32) × AllSpaces cs

-- decimal digits alone
abbrev pub AllDigits : List ℕ → Type 0
AllDigits [] = ⊤
AllDigits (c ∷ cs) = (48 ≤ c) × (c ≤ 57) × AllDigits cs

-- a sign, which may be missing, before a number gives this value, from -2^63 to 2^63 - 1
abbrev pub IsSigned : List ℕ → ℕ → ℤ → Type 0
IsSigned sign n z =
    ((sign ≡ codes "-") × (n ≤ 2 ^ 63) × (z ≡ neg_ℤ (pos n)))
    ⊎ (((sign ≡ []) ⊎ (sign ≡ codes "+")) × (n < 2 ^ 63) × (z ≡ pos n))

-- the field writes the value
pub record Writes (field : List ℕ) (z : ℤ) : Type 0 where
  pub before : List ℕ
  pub sign : List ℕ
  pub digits : List ℕ
  pub after : List ℕ
  pub parts : field ≡ before ++ (sign ++ (digits ++ after))
  pub blank : AllSpaces before
  pub some : 0 < length digits
  pub decimal : AllDigits digits
  pub blank_after : AllSpaces after
  pub value : IsSigned sign (value_after 0 digits) z

-- what is read is written, and what is written is read
abbrev pub ReadIsWritten : Type 0
ReadIsWritten = (field : List ℕ) (z : ℤ) → number_in field ≡ Some z → Writes field z

abbrev pub WrittenIsRead : Type 0
WrittenIsRead = (field : List ℕ) (z : ℤ) → Writes field z → number_in field ≡ Some z
