-- Which fault a file has that has any number of records, and where it is in the pieces of the file.
use Rattle.std.specs.Prelude.{◌≡◌, ⊤, ℕ, ◌+◌, ◌≤◌, ℤ, Bool, false, List, [], ◌∷◌, ◌++◌, length, drop, None, Err}
use Rattle.csv_streams.specs.Faults.{IsFirstFault, IsFaultOf}
use Rattle.csv_streams.specs.Records.{csv_records}
use Rattle.csv_streams.specs.Rows.{headers, most_rows, rows_of_file}
use Rattle.csv_streams.specs.Written.{WriteRows}
use Rattle.csv_streams.specs.declared.fault.InFault.{InFault}
use Rattle.csv_streams.specs.declared.fault.InFault.TheVariants as fault
use Rattle.csv_cuts.specs.Cut.{AreCut}

-- THE WHOLE

-- It is the fault of a file of rows, however many records it has: the first fault of the first record that has one. Records are
-- counted from 1 with the header. Any record may be there, so that none is one too many.
pub record IsFaultOfAll (bytes : List ℕ) (width : ℕ) (skip_first more : Bool) (f : InFault) : Type 0 where
  pub read : List (List (List ℕ))
  pub fields : List (List ℕ)
  pub others : List (List (List ℕ))
  pub rows : List (List ℤ)
  pub parts : drop (headers skip_first) (csv_records bytes) ≡ read ++ fields ∷ others
  pub written : WriteRows width more read rows
  pub faulty : IsFirstFault width more None (headers skip_first + 1 + length read) (headers skip_first + 1 + length read) fields f

-- Where the file has no more records than one run takes, it is the fault that is told of the file.
abbrev pub FaultsWithinTheLimit : Type 0
FaultsWithinTheLimit =
    (bytes : List ℕ) (width : ℕ) (skip_first more : Bool) (f : InFault)
    → IsFaultOfAll bytes width skip_first more f → length (csv_records bytes) ≤ headers skip_first + most_rows
    → rows_of_file bytes width skip_first more ≡ Err f

-- A file has one such fault at most, and where it has one its records do not all write rows.
abbrev pub OneFaultOfAll : Type 0
OneFaultOfAll =
    (bytes : List ℕ) (width : ℕ) (skip_first more : Bool) (f g : InFault)
    → IsFaultOfAll bytes width skip_first more f → IsFaultOfAll bytes width skip_first more g → f ≡ g

abbrev pub FaultOrRows : Type 0
FaultOrRows =
    (bytes : List ℕ) (width : ℕ) (skip_first more : Bool) (f : InFault) (rows : List (List ℤ))
    → IsFaultOfAll bytes width skip_first more f → WriteRows width more (drop (headers skip_first) (csv_records bytes)) rows → ⊥

-- THE PIECES

-- it is the fault of a record, and not that there are too many
abbrev pub IsOfRecord : InFault → Type 0
IsOfRecord (fault.Width rec) = ⊤
IsOfRecord (fault.NotNumber rec field) = ⊤
IsOfRecord (fault.Backwards rec) = ⊤
IsOfRecord (fault.NegativeTime rec) = ⊤
IsOfRecord fault.TooMany = ⊥
IsOfRecord fault.NoMemory = ⊥

-- the same fault, of a record before which so many more records stand
abbrev pub moved : ℕ → InFault → InFault
moved n (fault.Width rec) = fault.Width (n + rec)
moved n (fault.NotNumber rec field) = fault.NotNumber (n + rec) field
moved n (fault.Backwards rec) = fault.Backwards (n + rec)
moved n (fault.NegativeTime rec) = fault.NegativeTime (n + rec)
moved n fault.TooMany = fault.TooMany
moved n fault.NoMemory = fault.NoMemory

-- how many records the pieces have, with the header
abbrev pub records_of : List (List ℕ) → ℕ
records_of [] = 0
records_of (x ∷ xs) = length (csv_records x) + records_of xs

-- each piece has rows alone, the first behind the header, if there is one
abbrev pub HaveRows : ℕ → Bool → Bool → List (List ℕ) → Type 0
HaveRows width skip_first more [] = ⊤
HaveRows width skip_first more (x ∷ xs) =
    (rows : List (List ℤ)) × WriteRows width more (drop (headers skip_first) (csv_records x)) rows × HaveRows width false more xs

-- whether the piece behind these begins with the header: the first, if there is one
abbrev pub header_behind : Bool → List (List ℕ) → Bool
header_behind skip_first [] = skip_first
header_behind skip_first (x ∷ xs) = false

-- The bytes are cut, the first pieces have rows alone, and the piece behind them has the fault of a record. That is the fault of the
-- whole file, with the number of the record in it: so many records more stand before it as the first pieces have.
abbrev pub FaultsInPieces : Type 0
FaultsInPieces =
    (bytes : List ℕ) (width : ℕ) (skip_first more : Bool) (before : List (List ℕ)) (piece : List ℕ) (after : List (List ℕ)) (f : InFault)
    → AreCut bytes skip_first (before ++ piece ∷ after)
    → HaveRows width skip_first more before
    → IsFaultOf piece width (header_behind skip_first before) more f
    → IsOfRecord f
    → IsFaultOfAll bytes width skip_first more (moved (records_of before) f)
