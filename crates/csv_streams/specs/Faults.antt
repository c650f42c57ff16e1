-- Which fault a file has, as a relation: each record before the faulty one writes a row, and the faulty one has the fault by
-- the clause of its kind, and none of a kind that comes before it.
use Rattle.std.specs.Prelude.{◌≡◌, ℕ, ℤ, pos, ◌+◌, ◌<◌, ◌≤◌, ◌<ℤ◌, Bool, true, false, List, [], ◌∷◌, ◌++◌, length, take, drop, Option, None, Some, Err, ◌↔◌}
use Rattle.csv_streams.specs.Records.{csv_records}
use Rattle.csv_streams.specs.Rows.{headers, most_rows, rows_of_file}
use Rattle.csv_streams.specs.Writing.{Writes}
use Rattle.csv_streams.specs.Written.{AllWrite, WriteRows}
use Rattle.csv_streams.specs.declared.fault.InFault.{InFault}
use Rattle.csv_streams.specs.declared.fault.InFault.TheVariants as fault

-- a record of so many fields has this width; with `more` it may have further fields
abbrev pub HasFields : ℕ → Bool → ℕ → Type 0
HasFields width true count = width ≤ count
HasFields width false count = count ≡ width

-- field number k, counted from 1, is the first that writes no value
pub record IsFirstUnread (k : ℕ) (fields : List (List ℕ)) : Type 0 where
  pub read : List (List ℕ)
  pub field : List ℕ
  pub others : List (List ℕ)
  pub values : List ℤ
  pub parts : fields ≡ read ++ field ∷ others
  pub number : k ≡ length read + 1
  pub written : AllWrite read values
  pub unread : (z : ℤ) → Writes field z → ⊥

-- the record begins with a timestamp, and it is below this instant. `stamps` is None where the file has no timestamps, and else the
-- timestamp of the record before, 0 for the first record
abbrev pub IsStampedBelow : Option ℤ → ℤ → List (List ℕ) → Type 0
IsStampedBelow None at fields = ⊥
IsStampedBelow (Some before) at [] = ⊥
IsStampedBelow (Some before) at (field ∷ fields) = (z : ℤ) × Writes field z × (z <ℤ at)

-- the timestamp of the record before
abbrev pub stamp_before : Option ℤ → ℤ
stamp_before None = pos 0
stamp_before (Some before) = before

-- record number `rec` has this fault, whichever others it has; `last` is the number of the last record that may be
module _ (width : ℕ) (more : Bool) (stamps : Option ℤ) (last rec : ℕ) (fields : List (List ℕ)) where
  abbrev pub HasFault : InFault → Type 0
  HasFault fault.TooMany = last < rec
  HasFault (fault.Width r) = (r ≡ rec) × (HasFields width more (length fields) → ⊥)
  HasFault (fault.NotNumber r k) = (r ≡ rec) × IsFirstUnread k (take width fields)
  HasFault (fault.NegativeTime r) = (r ≡ rec) × IsStampedBelow stamps (pos 0) fields
  HasFault (fault.Backwards r) = (r ≡ rec) × IsStampedBelow stamps (stamp_before stamps) fields
  HasFault fault.NoMemory = ⊥

-- the order in which the faults of a record are told
abbrev pub rank : InFault → ℕ
rank fault.TooMany = 0
rank (fault.Width rec) = 1
rank (fault.NotNumber rec field) = 2
rank (fault.NegativeTime rec) = 3
rank (fault.Backwards rec) = 4
rank fault.NoMemory = 5

-- it is the first fault of the record
pub record IsFirstFault (width : ℕ) (more : Bool) (stamps : Option ℤ) (last rec : ℕ) (fields : List (List ℕ)) (f : InFault) : Type 0 where
  pub has : HasFault width more stamps last rec fields f
  pub first : (g : InFault) → rank g < rank f → HasFault width more stamps last rec fields g → ⊥

-- it is the fault of a file of rows: the first fault of the first record that has one. Records are counted from 1 with the header
pub record IsFaultOf (bytes : List ℕ) (width : ℕ) (skip_first more : Bool) (f : InFault) : Type 0 where
  pub read : List (List (List ℕ))
  pub fields : List (List ℕ)
  pub others : List (List (List ℕ))
  pub rows : List (List ℤ)
  pub parts : drop (headers skip_first) (csv_records bytes) ≡ read ++ fields ∷ others
  pub written : WriteRows width more read rows
  pub few : length rows ≤ most_rows
  pub faulty : IsFirstFault width more None (headers skip_first + most_rows) (headers skip_first + 1 + length read) fields f

-- a fault is told exactly where it is the fault of the file
abbrev pub FaultsAre : Type 0
FaultsAre =
    (bytes : List ℕ) (width : ℕ) (skip_first more : Bool) (f : InFault)
    → (rows_of_file bytes width skip_first more ≡ Err f) ↔ IsFaultOf bytes width skip_first more f
