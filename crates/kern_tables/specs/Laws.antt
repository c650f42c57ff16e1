-- The laws of tables: statements over the definitions alone.
use Rattle.std.specs.Prelude.{◌≡◌, ℕ, ℤ, pos, ◌+ℤ◌, ◌<ℤ◌, ◌≤ℤ◌, ◌⊎◌, List, [], ◌∷◌, ◌++◌, map, flat_map, fold, length, min, Some, None, All, AllPairs}
use Rattle.std.specs.Prelude.{if◌then◌else◌}
use Rattle.std.specs.List.{list_any}
use Rattle.std.specs.List.Sorted.{IsPermutation, IsSorted, IsStrictlySortedBy}
use Rattle.std.specs.Map as map
use Rattle.std.specs.BTreeMap.{is_at}
use Rattle.kern_tables.specs.declared.kind.TableKind.{TableKind}
use Rattle.kern_tables.specs.declared.kind.TableKind.TheVariants.{Sum, Collection, Maximum}
use Rattle.river_base.specs.Number.{wrap}
use Rattle.river_base.specs.Row.{row_cmp, copies}
use Rattle.kern_tables.specs.declared.ranked.Ranked.{Ranked}
use Rattle.river_base.specs.Bags.{SameBag}
use Rattle.kern_tables.specs.Tables.{tab, under_key, value_in, ranked_in, sum_row, ranked_row, has_key}
use Rattle.kern_tables.specs.Kept.{kept_of, with_row, rows_of, kind_of_table}

-- A table is a function of the bag of the rows that were added.
abbrev pub TablesAreOfBags : Type 0
TablesAreOfBags = (kind : TableKind) (xs ys : List (List ℤ)) → SameBag xs ys → tab kind xs ≡ tab kind ys

-- the sum of the values, as integers
abbrev pub total_of : List (List ℤ) → ℤ
total_of rests = fold (λ sum rest. sum +ℤ value_in rest) (pos 0) rests

-- one row for each key in ascending order; a key is there exactly where a row was added with it, and has the sum of what was added modulo 2^64
pub record IsSums (keys : ℕ) (adds rows : List (List ℤ)) : Type 0 where
  pub entries : List (List ℤ × ℤ)
  pub rows_are : rows ≡ map (λ e. sum_row e.0 e.1) entries
  pub rise : IsStrictlySortedBy row_cmp (map.keys_of entries)
  pub at : (key : List ℤ)
      → map.lookup (is_at (row_cmp key)) entries ≡ (if list_any (has_key keys key) adds then Some (wrap (total_of (under_key keys key adds))) else None)

abbrev pub SumsAre : Type 0
SumsAre = (keys : ℕ) (adds : List (List ℤ)) → IsSums keys adds (tab (Sum keys) adds)

-- every row as often as it was added, in ascending order
abbrev pub CollectionsAre : Type 0
CollectionsAre =
    (keys : ℕ) (adds : List (List ℤ))
    → ((row : List ℤ) → copies row (tab (Collection keys) adds) ≡ copies row adds) × IsSorted row_cmp (tab (Collection keys) adds)

-- the weight of a is greater than that of b, or they are equal and the value of a is not greater
abbrev pub IsAhead : Ranked → Ranked → Type 0
IsAhead a b = (b.weight <ℤ a.weight) ⊎ ((a.weight ≡ b.weight) × (a.value ≤ℤ b.value))

-- of all these, so many are kept, each ahead of the next ones, and ahead of all that are left out
pub record AreBest (best : ℕ) (all kept : List Ranked) : Type 0 where
  pub left : List Ranked
  pub all_are : IsPermutation all (kept ++ left)
  pub number : length kept ≡ min best (length all)
  pub by_rank : AllPairs IsAhead kept
  pub none_before : All (λ a. All (IsAhead a) left) kept

-- the rows of each key in ascending order; a key is there exactly where a row was added with it, and has the best of what was added
pub record AreMaxima (keys best : ℕ) (adds rows : List (List ℤ)) : Type 0 where
  pub entries : List (List ℤ × List Ranked)
  pub rows_are : rows ≡ flat_map (λ e. map (ranked_row e.0) e.1) entries
  pub rise : IsStrictlySortedBy row_cmp (map.keys_of entries)
  pub kept : List ℤ → List Ranked
  pub at : (key : List ℤ) → map.lookup (is_at (row_cmp key)) entries ≡ (if list_any (has_key keys key) adds then Some (kept key) else None)
  pub best_are : (key : List ℤ) → AreBest best (map ranked_in (under_key keys key adds)) (kept key)

abbrev pub MaximaAre : Type 0
MaximaAre = (keys best : ℕ) (adds : List (List ℤ)) → AreMaxima keys best adds (tab (Maximum best keys) adds)

-- What a table keeps of a list of rows gives the rows that are printed for them, is made by adding them one after another to
-- what an empty table keeps, and is a function of their bag.
pub record AreKept (kind : TableKind) : Type 0 where
  pub rows : (adds : List (List ℤ)) → rows_of (kept_of kind adds) ≡ tab kind adds
  pub more : (adds : List (List ℤ)) (row : List ℤ) → kept_of kind (adds ++ row ∷ []) ≡ with_row (kept_of kind adds) row
  pub of_bag : (xs ys : List (List ℤ)) → SameBag xs ys → kept_of kind xs ≡ kept_of kind ys
  pub kind_is : (adds : List (List ℤ)) → kind_of_table (kept_of kind adds) ≡ kind

abbrev pub TablesKeepAdds : Type 0
TablesKeepAdds = (kind : TableKind) → AreKept kind
