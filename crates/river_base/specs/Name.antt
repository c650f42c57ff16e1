-- Names: a letter or `_`, then letters, digits, `_` and `@`; at most 64 bytes.
use Rattle.std.specs.Prelude.{◌≡◌, ℕ, Bool, false, List, [], ◌∷◌, length, nat_le, nat_eq, ◌&&◌, ◌||◌, ◌==◌, IsTrue, take}
use Rattle.std.specs.List.{list_all}
use Rattle.std.specs.Char.{is_ascii_alphabetic, is_ascii_digit}
use Rattle.std.specs.declared.cmp.Ordering.{Ordering}
use Rattle.std.specs.Ordering.{nat_cmp, eq_by_cmp}
use Rattle.std.specs.Cmp.{IsEquivalence, IsTotalOrder, unsigned_ties}
use Rattle.std.specs.Cmp.Lexicographic.{slice_cmp, lists_ties, pointwise}
use Rattle.std.proofs.lemmas.Cmp.{lists_equiv, nat_eq_equiv, lists_total, nat_cmp_total}
use Rattle.river_base.specs.Short.{IsShort}

-- a letter or _
unfoldable pub is_letter : ℕ → Bool
is_letter c = is_ascii_alphabetic c || c == 95

unfoldable pub is_digit : ℕ → Bool
is_digit c = is_ascii_digit c

-- a letter, a digit, _ or @
unfoldable pub is_word : ℕ → Bool
is_word c = is_letter c || is_digit c || c == 64

-- the bytes are a name of at most 64 bytes
abbrev pub is_name : List ℕ → Bool
is_name [] = false
is_name (b ∷ bs) = is_letter b && (list_all is_word bs && nat_le (length bs) 63)

-- an array of 64 bytes whose first `len` are a name
pub record HoldsName (len : ℕ) (bytes : List ℕ) : Type 0 where
  pub short : IsShort 64 0 len bytes
  pub named : IsTrue (is_name (take len bytes))

abbrev pub name_eq : List ℕ → List ℕ → Bool
name_eq a b = pointwise nat_eq a b

abbrev pub name_cmp : List ℕ → List ℕ → Ordering
name_cmp a b = slice_cmp nat_cmp a b

pub name_equiv : IsEquivalence name_eq
name_equiv = lists_equiv nat_eq_equiv

pub name_total : IsTotalOrder name_cmp
name_total = lists_total nat_cmp_total

pub name_ties : (a b : List ℕ) → name_eq a b ≡ eq_by_cmp name_cmp a b
name_ties = lists_ties nat_cmp unsigned_ties
