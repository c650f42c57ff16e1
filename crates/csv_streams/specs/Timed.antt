-- The timed rows that the records of a file are: the first field is the timestamp, those behind it are the row.
use Rattle.std.specs.Prelude.{ℕ, ℤ, pos, ◌+◌, Bool, false, int_lt, List, [], ◌∷◌, drop, Result, Ok, Err, if◌then◌else◌}
use Rattle.csv_streams.specs.Numbered.{before_later}
use Rattle.csv_streams.specs.Records.{csv_records}
use Rattle.csv_streams.specs.Rows.{row_in, headers, most_rows}
use Rattle.csv_streams.specs.declared.fault.InFault.{InFault}
use Rattle.csv_streams.specs.declared.fault.InFault.TheVariants as fault

-- a row behind its timestamp
abbrev pub Entry : Type 0
Entry = ℤ × List ℤ

-- the timestamp of the last of these, which come after the timestamp t
abbrev pub stamp_after : ℤ → List Entry → ℤ
stamp_after t [] = t
stamp_after t (e ∷ es) = stamp_after e.0 es

-- no timestamp is below 0, and none is below the one before
abbrev pub in_time : ℕ → ℤ → ℤ → Result (Unit {0}) InFault
in_time rec t at =
    if int_lt at (pos 0) then Err (fault.NegativeTime rec)
    else if int_lt at t then Err (fault.Backwards rec)
    else Ok tt

abbrev pub if_in_time : Entry → Result (Unit {0}) InFault → Result Entry InFault
if_in_time e (Ok u) = Ok e
if_in_time e (Err f) = Err f

-- the values of record number `rec`, of which the first is the timestamp, behind a record with the timestamp t. No record has no value
abbrev pub with_stamp : ℕ → ℤ → Result (List ℤ) InFault → Result Entry InFault
with_stamp rec t (Err f) = Err f
with_stamp rec t (Ok []) = Err (fault.Width rec)
with_stamp rec t (Ok (at ∷ row)) = if_in_time (at, row) (in_time rec t at)

-- the timed row of record number `rec`: what is wrong with its fields comes first, then what is wrong with its time
abbrev pub timed_in : ℕ → ℕ → ℤ → ℕ → List (List ℕ) → Result Entry InFault
timed_in width last t rec fields = with_stamp rec t (row_in (width + 1) false last rec fields)

-- what comes after an element, given that element
abbrev pub and_later : Result Entry InFault → (Entry → Result (List Entry) InFault) → Result (List Entry) InFault
and_later (Ok e) later = before_later (Ok e) (later e)
and_later (Err f) later = Err f

-- the timed rows of records behind the timestamp t, which are numbered on from `rec`; the first faulty one decides
abbrev pub timed_from : ℕ → ℕ → ℤ → ℕ → List (List (List ℕ)) → Result (List Entry) InFault
timed_from width last t rec [] = Ok []
timed_from width last t rec (fields ∷ recs) = and_later (timed_in width last t rec fields) (λ e. timed_from width last e.0 (rec + 1) recs)

-- the timed rows of records, of which the first may be a header
abbrev pub timed_rows_in : ℕ → Bool → List (List (List ℕ)) → Result (List Entry) InFault
timed_rows_in width skip_first recs = timed_from width (headers skip_first + most_rows) (pos 0) (headers skip_first + 1) (drop (headers skip_first) recs)

-- the timed rows of a file of timed rows of this width, or the fault of its first record that has one
abbrev pub timed_of : List ℕ → ℕ → Bool → Result (List Entry) InFault
timed_of bytes width skip_first = timed_rows_in width skip_first (csv_records bytes)
