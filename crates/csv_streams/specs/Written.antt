-- Which files write which rows, as a relation: each record but the header has the width, and its fields write the row's values.
use Rattle.std.specs.Prelude.{◌≡◌, ⊤, ℕ, ℤ, ◌≤◌, Bool, IsTrue, List, [], ◌∷◌, length, take, drop, Ok}
use Rattle.river_base.specs.Held.{HaveWidth}
use Rattle.csv_streams.specs.Records.{csv_records}
use Rattle.csv_streams.specs.Rows.{has_width, headers, most_rows, rows_of_file}
use Rattle.csv_streams.specs.Writing.{Writes}

-- each field writes a value
abbrev pub AllWrite : List (List ℕ) → List ℤ → Type 0
AllWrite [] [] = ⊤
AllWrite [] (x ∷ xs) = ⊥
AllWrite (f ∷ fs) [] = ⊥
AllWrite (f ∷ fs) (x ∷ xs) = Writes f x × AllWrite fs xs

-- the record has the width, and its first fields write the row
abbrev pub WritesRow : ℕ → Bool → List (List ℕ) → List ℤ → Type 0
WritesRow width more fields row = IsTrue (has_width width more (length fields)) × AllWrite (take width fields) row

-- each record writes a row
abbrev pub WriteRows : ℕ → Bool → List (List (List ℕ)) → List (List ℤ) → Type 0
WriteRows width more [] [] = ⊤
WriteRows width more [] (row ∷ rows) = ⊥
WriteRows width more (fields ∷ recs) [] = ⊥
WriteRows width more (fields ∷ recs) (row ∷ rows) = WritesRow width more fields row × WriteRows width more recs rows

-- the file writes these rows, which are not too many
pub record FileWrites (bytes : List ℕ) (width : ℕ) (skip_first more : Bool) (rows : List (List ℤ)) : Type 0 where
  pub written : WriteRows width more (drop (headers skip_first) (csv_records bytes)) rows
  pub few : length rows ≤ most_rows

-- what is read is written, and what is written is read
abbrev pub ReadRowsAreWritten : Type 0
ReadRowsAreWritten =
    (bytes : List ℕ) (width : ℕ) (skip_first more : Bool) (rows : List (List ℤ)) → rows_of_file bytes width skip_first more ≡ Ok rows
    → FileWrites bytes width skip_first more rows

abbrev pub WrittenRowsAreRead : Type 0
WrittenRowsAreRead =
    (bytes : List ℕ) (width : ℕ) (skip_first more : Bool) (rows : List (List ℤ)) → FileWrites bytes width skip_first more rows
    → rows_of_file bytes width skip_first more ≡ Ok rows

-- rows that are read have the width that was asked
abbrev pub ReadRowsHaveWidth : Type 0
ReadRowsHaveWidth =
    (bytes : List ℕ) (width : ℕ) (skip_first more : Bool) (rows : List (List ℤ)) → rows_of_file bytes width skip_first more ≡ Ok rows → HaveWidth width rows
