-- The rows that the records of a file are.
use Rattle.std.specs.Prelude.{◌≡◌, ⊤, ℕ, ℤ, ◌+◌, ◌==◌, nat_lt, nat_le, Bool, List, [], ◌∷◌, ◌++◌, length, take, drop, Option, None, Some, Result, Ok, Err}
use Rattle.std.specs.Prelude.{if◌then◌else◌}
use Rattle.csv_streams.specs.Number.{number_in}
use Rattle.csv_streams.specs.Numbered.{numbered_results}
use Rattle.csv_streams.specs.Records.{csv_records}
use Rattle.csv_streams.specs.declared.fault.InFault.{InFault}
use Rattle.csv_streams.specs.declared.fault.InFault.TheVariants as fault

-- how many rows a file has at most
abbrev pub most_rows : ℕ
most_rows = 100000

-- the value of a field; both record and field are numbered from 1
abbrev pub value_or : ℕ → ℕ → Option ℤ → Result ℤ InFault
value_or rec field (Some x) = Ok x
value_or rec field None = Err (fault.NotNumber rec field)

abbrev pub value_of_field : ℕ → ℕ → List ℕ → Result ℤ InFault
value_of_field rec field text = value_or rec field (number_in text)

-- whether a record of so many fields has a row of this width; with `more` it may have further fields
abbrev pub has_width : ℕ → Bool → ℕ → Bool
has_width width more count = if more then nat_le width count else count == width

-- the row of record number `rec`: no record behind the last one that may be, then the width, then its fields from left to right
abbrev pub row_in : ℕ → Bool → ℕ → ℕ → List (List ℕ) → Result (List ℤ) InFault
row_in width more last rec fields =
    if nat_lt last rec then Err fault.TooMany
    else if has_width width more (length fields) then numbered_results (value_of_field rec) 1 (take width fields)
    else Err (fault.Width rec)

-- how many records are passed over at the front: the header, if there is one
abbrev pub headers : Bool → ℕ
headers skip_first = if skip_first then 1 else 0

-- the rows of records, of which the first may be a header; records are numbered from 1 with it, and the first faulty one decides
abbrev pub rows_of_records : ℕ → Bool → Bool → List (List (List ℕ)) → Result (List (List ℤ)) InFault
rows_of_records width skip_first more recs =
    numbered_results (row_in width more (headers skip_first + most_rows)) (headers skip_first + 1) (drop (headers skip_first) recs)

-- the rows of a file of rows of this width, or the fault of its first record that has one
abbrev pub rows_of_file : List ℕ → ℕ → Bool → Bool → Result (List (List ℤ)) InFault
rows_of_file bytes width skip_first more = rows_of_records width skip_first more (csv_records bytes)

-- a fault is told: it is this one, or there was no memory
abbrev pub IsFaultTold : {T : Type 0} → Result T InFault → InFault → Type 0
IsFaultTold one fault.NoMemory = ⊤
IsFaultTold one f = one ≡ Err f

-- what is answered for a file: its rows, or its fault, and that there was no memory at any time
abbrev pub IsAnswer : {T : Type 0} → Result T InFault → Result T InFault → Type 0
IsAnswer file (Ok rows) = file ≡ Ok rows
IsAnswer file (Err f) = IsFaultTold file f

-- one more row, which this is
pub record Appends {T : Type 0} (one : Result T InFault) (old new : List T) : Type 0 where
  pub row : T
  pub is : one ≡ Ok row
  pub grown : new ≡ old ++ row ∷ []
