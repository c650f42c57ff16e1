-- Which files write which timed rows, and which fault another file has, as relations.
use Rattle.std.specs.Prelude.{◌≡◌, ⊤, ℕ, ℤ, pos, ◌+◌, ◌≤◌, ◌≤ℤ◌, Bool, false, List, [], ◌∷◌, ◌++◌, length, drop, map, Some, Ok, Err, ◌↔◌}
use Rattle.river_base.specs.Held.{HaveWidth}
use Rattle.csv_streams.specs.Records.{csv_records}
use Rattle.csv_streams.specs.Rows.{headers, most_rows}
use Rattle.csv_streams.specs.Written.{WritesRow}
use Rattle.csv_streams.specs.Faults.{IsFirstFault}
use Rattle.csv_streams.specs.Timed.{Entry, stamp_after, timed_of}
use Rattle.csv_streams.specs.declared.fault.InFault.{InFault}

-- the record has one field more than the row, its fields write the timestamp and the row, and the timestamp is neither below 0 nor below t
pub record WritesTimed (width : ℕ) (t : ℤ) (fields : List (List ℕ)) (e : Entry) : Type 0 where
  pub written : WritesRow (width + 1) false fields (e.0 ∷ e.1)
  pub from_nought : pos 0 ≤ℤ e.0
  pub in_turn : t ≤ℤ e.0

-- each record writes a timed row, whose timestamp is not below that of the record before, or below t for the first
abbrev pub WriteTimed : ℕ → ℤ → List (List (List ℕ)) → List Entry → Type 0
WriteTimed width t [] [] = ⊤
WriteTimed width t [] (e ∷ es) = ⊥
WriteTimed width t (fields ∷ recs) [] = ⊥
WriteTimed width t (fields ∷ recs) (e ∷ es) = WritesTimed width t fields e × WriteTimed width e.0 recs es

-- the file writes these timed rows, which are not too many
pub record FileWritesTimed (bytes : List ℕ) (width : ℕ) (skip_first : Bool) (rows : List Entry) : Type 0 where
  pub written : WriteTimed width (pos 0) (drop (headers skip_first) (csv_records bytes)) rows
  pub few : length rows ≤ most_rows

-- it is the fault of a file of timed rows: the first fault of the first record that has one. Records are counted from 1 with the header
pub record IsTimedFaultOf (bytes : List ℕ) (width : ℕ) (skip_first : Bool) (f : InFault) : Type 0 where
  pub read : List (List (List ℕ))
  pub fields : List (List ℕ)
  pub others : List (List (List ℕ))
  pub rows : List Entry
  pub parts : drop (headers skip_first) (csv_records bytes) ≡ read ++ fields ∷ others
  pub written : WriteTimed width (pos 0) read rows
  pub few : length rows ≤ most_rows
  pub faulty : IsFirstFault (width + 1) false (Some (stamp_after (pos 0) rows)) (headers skip_first + most_rows) (headers skip_first + 1 + length read) fields f

-- what is read is what is written
abbrev pub ReadTimedAreWritten : Type 0
ReadTimedAreWritten =
    (bytes : List ℕ) (width : ℕ) (skip_first : Bool) (rows : List Entry)
    → (timed_of bytes width skip_first ≡ Ok rows) ↔ FileWritesTimed bytes width skip_first rows

-- a fault is told exactly where it is the fault of the file
abbrev pub TimedFaultsAre : Type 0
TimedFaultsAre =
    (bytes : List ℕ) (width : ℕ) (skip_first : Bool) (f : InFault)
    → (timed_of bytes width skip_first ≡ Err f) ↔ IsTimedFaultOf bytes width skip_first f

-- timed rows that are read have the width that was asked
abbrev pub ReadTimedHaveWidth : Type 0
ReadTimedHaveWidth =
    (bytes : List ℕ) (width : ℕ) (skip_first : Bool) (rows : List Entry)
    → timed_of bytes width skip_first ≡ Ok rows → HaveWidth width (map (λ (e : Entry). e.1) rows)
