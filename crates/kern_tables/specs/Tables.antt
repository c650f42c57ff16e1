-- What a table has after rows were added to it, in the order in which it is printed.
use Rattle.std.specs.Prelude.{ℕ, ℤ, pos, ◌+◌, Bool, List, [], ◌∷◌, ◌++◌, map, filter, flat_map, fold, take, drop, if◌then◌else◌, slice_index_or}
use Rattle.std.specs.declared.cmp.Ordering.{Ordering}
use Rattle.std.specs.Ordering.{int_cmp, ordering_then, is_lt}
use Rattle.river_base.specs.Number.{add}
use Rattle.river_base.specs.Row.{row_eq, in_order}
use Rattle.river_base.specs.Bags.{ascending}
use Rattle.kern_tables.specs.declared.kind.TableKind.{TableKind}
use Rattle.kern_tables.specs.declared.kind.TableKind.TheVariants.{Sum, Collection, Maximum}
use Rattle.kern_tables.specs.declared.ranked.Ranked.{Ranked}

-- how many values a row of a table has: the keys, the value, and for a maximum the weight
abbrev pub table_width : TableKind → ℕ
table_width (Sum keys) = keys + 1
table_width (Collection keys) = keys + 1
table_width (Maximum best keys) = keys + 2

-- an ascending list without what stands there again
abbrev pub once_after : List ℤ → List (List ℤ) → List (List ℤ)
once_after k [] = []
once_after k (x ∷ xs) = if row_eq k x then once_after k xs else x ∷ once_after x xs

abbrev pub each_row_once : List (List ℤ) → List (List ℤ)
each_row_once [] = []
each_row_once (x ∷ xs) = x ∷ once_after x xs

-- the keys that occur, in ascending order. The key of a row is its first values
abbrev pub keys_of : ℕ → List (List ℤ) → List (List ℤ)
keys_of keys adds = each_row_once (in_order (map (λ row. take keys row) adds))

-- the row has this key
abbrev pub has_key : ℕ → List ℤ → List ℤ → Bool
has_key keys key row = row_eq (take keys row) key

-- what follows the key in the rows of this key
abbrev pub under_key : ℕ → List ℤ → List (List ℤ) → List (List ℤ)
under_key keys key adds = map (λ row. drop keys row) (filter (has_key keys key) adds)

-- the value of what follows a key
abbrev pub value_in : List ℤ → ℤ
value_in rest = slice_index_or rest 0 (pos 0)

-- the value and its weight
abbrev pub ranked_in : List ℤ → Ranked
ranked_in rest = record { weight = slice_index_or rest 1 (pos 0); value = slice_index_or rest 0 (pos 0) }

-- one more value, which wraps
abbrev pub add_value : ℤ → List ℤ → ℤ
add_value sum rest = add sum (value_in rest)

abbrev pub sum_of : List (List ℤ) → ℤ
sum_of rests = fold add_value (pos 0) rests

-- the greater weight is first, and of equal weights the smaller value
abbrev pub rank_cmp : Ranked → Ranked → Ordering
rank_cmp a b = ordering_then (int_cmp b.weight a.weight) (int_cmp a.value b.value)

abbrev pub ranks_before : Ranked → Ranked → Bool
ranks_before a b = is_lt (rank_cmp a b)

-- the first `best` of them by rank, duplicates kept
abbrev pub best_of : ℕ → List (List ℤ) → List Ranked
best_of best rests = take best (ascending ranks_before (map ranked_in rests))

-- the row of a key and a sum, and of a key, a value and its weight
abbrev pub sum_row : List ℤ → ℤ → List ℤ
sum_row key sum = key ++ sum ∷ []

abbrev pub ranked_row : List ℤ → Ranked → List ℤ
ranked_row key r = key ++ r.value ∷ r.weight ∷ []

abbrev pub tab : TableKind → List (List ℤ) → List (List ℤ)
tab (Sum keys) adds = map (λ key. sum_row key (sum_of (under_key keys key adds))) (keys_of keys adds)
tab (Collection keys) adds = in_order adds
tab (Maximum best keys) adds = flat_map (λ key. map (ranked_row key) (best_of best (under_key keys key adds))) (keys_of keys adds)
