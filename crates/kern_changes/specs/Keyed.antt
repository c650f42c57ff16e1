-- A bag of rows that is kept by one of its columns.
use Rattle.std.specs.Prelude.{◌^◌, ◌-◌, ◌+ℤ◌, ℕ, zero, suc, ℤ, pos, Bool, false, List, [], ◌∷◌, length, filter, nat_lt, slice_set, slice_index_or, if◌then◌else◌}
use Rattle.std.specs.Ordering.{int_eq}
use Rattle.std.specs.declared.ops.Bound.{Bound}
use Rattle.std.specs.declared.ops.Bound.TheVariants.{Excluded, Unbounded}

-- the value of a row at a place
abbrev pub at_place : ℕ → List ℤ → ℤ
at_place k row = slice_index_or row k (pos 0)

-- the first value and that at a place have changed places; the row itself where there is no such place
abbrev pub turned : ℕ → List ℤ → List ℤ
turned zero row = row
turned (suc k) [] = []
turned (suc k) (x ∷ xs) = if nat_lt k (length xs) then at_place k xs ∷ slice_set xs k x else x ∷ xs

-- the row's first value is this
abbrev pub begins : ℤ → List ℤ → Bool
begins value [] = false
begins value (x ∷ xs) = int_eq x value

-- the rows whose first value is this
abbrev pub begun : ℤ → List (List ℤ) → List (List ℤ)
begun value rows = filter (begins value) rows

-- the rows that have this value at this place
abbrev pub rows_with : ℕ → ℤ → List (List ℤ) → List (List ℤ)
rows_with k value rows = filter (λ row. int_eq (at_place k row) value) rows

-- where the rows end whose first value this is
abbrev pub end_of : ℤ → Bound (List ℤ)
end_of value = if int_eq value (pos (2 ^ 63 - 1)) then Unbounded else Excluded ((value +ℤ pos 1) ∷ [])
