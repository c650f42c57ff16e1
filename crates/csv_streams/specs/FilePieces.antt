-- Files that are cut behind a record.
use Rattle.std.specs.Prelude.{◌≡◌, ℕ, ◌≤◌, ℤ, Bool, List, [], ◌∷◌, ◌++◌, length, drop}
use Rattle.csv.specs.Machine.{step}
use Rattle.csv.specs.Reading.{default_config, strip_bom}
use Rattle.csv.specs.declared.parser.State.{State}
use Rattle.csv.specs.declared.parser.State.TheVariants as st
use Rattle.csv_streams.specs.Records.{csv_records}
use Rattle.csv_streams.specs.Rows.{headers}
use Rattle.csv_streams.specs.Written.{WriteRows}

-- where reading stands behind these bytes
abbrev pub state_behind : State → List ℕ → State
state_behind s [] = s
state_behind s (c ∷ cs) = state_behind (step default_config s c).0 cs

-- Behind these bytes a record may begin: they are none, or end with a line feed that is not between quotes.
abbrev pub EndsRecord : List ℕ → Type 0
EndsRecord bytes = state_behind st.StartRecord (strip_bom bytes) ≡ st.StartRecord

-- no byte-order mark at the front
abbrev pub IsUnmarked : List ℕ → Type 0
IsUnmarked bytes = strip_bom bytes ≡ bytes

-- The records of a file that is cut behind a record, before no byte-order mark, are those of the first piece and then those of the
-- other.
abbrev pub RecordsInPieces : Type 0
RecordsInPieces = (xs ys : List ℕ) → EndsRecord xs → IsUnmarked ys → csv_records (xs ++ ys) ≡ csv_records xs ++ csv_records ys

-- So are its rows, where the first piece has the header, if there is one.
abbrev pub RowsInPieces : Type 0
RowsInPieces =
    (xs ys : List ℕ) (width : ℕ) (skip_first more : Bool) (first second : List (List ℤ)) → EndsRecord xs → IsUnmarked ys
    → headers skip_first ≤ length (csv_records xs)
    → WriteRows width more (drop (headers skip_first) (csv_records xs)) first → WriteRows width more (csv_records ys) second
    → WriteRows width more (drop (headers skip_first) (csv_records (xs ++ ys))) (first ++ second)
