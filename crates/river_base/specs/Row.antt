-- Rows: lists of 1 to 16 values, and their order.
use Rattle.std.specs.Prelude.{◌≡◌, ℕ, ℤ, pos, Bool, List, All, length, count_by, IsSorted}
use Rattle.std.specs.declared.cmp.Ordering.{Ordering}
use Rattle.std.specs.Ordering.{int_eq, int_cmp, is_lt, eq_by_cmp}
use Rattle.std.specs.Cmp.{IsEquivalence, IsTotalOrder}
use Rattle.std.specs.Cmp.Lexicographic.{slice_cmp, lists_ties, pointwise}
use Rattle.std.proofs.Common.{refl}
use Rattle.std.proofs.lemmas.Cmp.{lists_equiv, int_eq_equiv, lists_total, int_cmp_total}
use Rattle.river_base.specs.Number.{IsValue}
use Rattle.river_base.specs.Short.{IsShort}
use Rattle.river_base.specs.Bags.{ascending}

-- an array of 16 values, of which the first `width` count
pub record AreShortValues (width : ℕ) (values : List ℤ) : Type 0 where
  pub short : IsShort 16 (pos 0) width values
  pub in_range : All IsValue values

abbrev pub row_eq : List ℤ → List ℤ → Bool
row_eq a b = pointwise int_eq a b

-- from left to right; a proper prefix comes first
abbrev pub row_cmp : List ℤ → List ℤ → Ordering
row_cmp a b = slice_cmp int_cmp a b

abbrev pub row_lt : List ℤ → List ℤ → Bool
row_lt a b = is_lt (row_cmp a b)

-- each row has this many values
abbrev pub HaveWidth : ℕ → List (List ℤ) → Type 0
HaveWidth w rows = All (λ row. length row ≡ w) rows

-- the rows of a relation stand in ascending order
abbrev pub IsAscending : List (List ℤ) → Type 0
IsAscending rows = IsSorted row_cmp rows

-- how often the row is in the bag
abbrev pub copies : List ℤ → List (List ℤ) → ℕ
copies row rows = count_by (row_eq row) rows

-- the rows in ascending order
abbrev pub in_order : List (List ℤ) → List (List ℤ)
in_order rows = ascending row_lt rows

pub row_equiv : IsEquivalence row_eq
row_equiv = lists_equiv int_eq_equiv

pub row_total : IsTotalOrder row_cmp
row_total = lists_total int_cmp_total

pub row_ties : (a b : List ℤ) → row_eq a b ≡ eq_by_cmp row_cmp a b
row_ties = lists_ties int_cmp (λ x y. refl)
