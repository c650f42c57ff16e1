-- One record more: the header, a row, or the first fault.
use Rattle.std.proofs.Common.{◌≡◌, ℕ, ◌+◌, ◌≤◌, List, [], ◌∷◌, ◌++◌, length, drop, Bool, true, false, cond, refl, sym, ◌∙◌, ap, arith, nat_lt, length-append}
use Rattle.std.specs.Prelude.{ℤ, Result, Ok, Err}
use Rattle.std.proofs.lemmas.Bool.Decides.{nat_tests}
use Rattle.std.proofs.lemmas.List.{drop-append-le, drop_all, length-drop}
use Rattle.csv_streams.specs.Numbered.{numbered_results}
use Rattle.csv_streams.specs.Rows.{row_in, rows_of_records, headers, most_rows, IsFaultTold}
use Rattle.csv_streams.specs.declared.fault.InFault.{InFault}
use Rattle.csv_streams.specs.declared.fault.InFault.TheVariants as fault
use Rattle.csv_streams.proofs.Numbered.{numbered-push, numbered-fault}

-- rows without a fault
abbrev pub told : List (List ℤ) → Result (List (List ℤ)) InFault
told rows = Ok rows

-- the rows of the records without the first h
abbrev behind : ℕ → Bool → ℕ → List (List (List ℕ)) → Result (List (List ℤ)) InFault
behind w more h recs = numbered_results (row_in w more (h + most_rows)) (h + 1) (drop h recs)

behind-header : (w : ℕ) (more : Bool) (h : ℕ) (recs : List (List (List ℕ))) (fields : List (List ℕ)) → length recs + 1 ≤ h
    → behind w more h (recs ++ fields ∷ []) ≡ behind w more h recs
behind-header w more h recs fields le =
    ap (numbered_results (row_in w more (h + most_rows)) (h + 1))
    (drop_all h (recs ++ fields ∷ []) (omega (arith, length-append recs (fields ∷ []), le)) ∙ sym (drop_all h recs (omega (arith, le))))

behind-push : (w : ℕ) (more : Bool) (h : ℕ) (recs : List (List (List ℕ))) (fields : List (List ℕ)) (rows : List (List ℤ)) (row : List ℤ) → h ≤ length recs
    → behind w more h recs ≡ Ok rows → row_in w more (h + most_rows) (length recs + 1) fields ≡ Ok row
    → behind w more h (recs ++ fields ∷ []) ≡ Ok (rows ++ row ∷ [])
behind-push w more h recs fields rows row le so_far is =
    ap (numbered_results (row_in w more (h + most_rows)) (h + 1)) (drop-append-le h recs (fields ∷ []) le)
    ∙ numbered-push (row_in w more (h + most_rows)) (h + 1) (length recs + 1) (drop h recs) fields rows row so_far (omega (arith, length-drop h recs, le)) is

behind-fault : (w : ℕ) (more : Bool) (h : ℕ) (recs : List (List (List ℕ))) (fields : List (List ℕ)) (others : List (List (List ℕ))) (rows : List (List ℤ))
    (f : InFault)
    → h ≤ length recs → behind w more h recs ≡ Ok rows → row_in w more (h + most_rows) (length recs + 1) fields ≡ Err f
    → behind w more h (recs ++ fields ∷ others) ≡ Err f
behind-fault w more h recs fields others rows f le so_far is =
    ap (numbered_results (row_in w more (h + most_rows)) (h + 1)) (drop-append-le h recs (fields ∷ others) le)
    ∙ numbered-fault (row_in w more (h + most_rows)) (h + 1) (length recs + 1) (drop h recs) fields others rows f so_far
    (omega (arith, length-drop h recs, le)) is

-- nothing is read at first
pub rows-none : (w : ℕ) (skip more : Bool) → rows_of_records w skip more [] ≡ Ok []
rows-none w true more = refl
rows-none w false more = refl

-- the header is passed over
pub rows-header : (w : ℕ) (skip more : Bool) (recs : List (List (List ℕ))) (fields : List (List ℕ)) → length recs + 1 ≤ headers skip
    → rows_of_records w skip more (recs ++ fields ∷ []) ≡ rows_of_records w skip more recs
rows-header w skip more recs fields le = behind-header w more (headers skip) recs fields le

-- another row
pub rows-push : (w : ℕ) (skip more : Bool) (recs : List (List (List ℕ))) (fields : List (List ℕ)) (rows : List (List ℤ)) (row : List ℤ)
    → headers skip ≤ length recs → rows_of_records w skip more recs ≡ Ok rows → row_in w more (headers skip + most_rows) (length recs + 1) fields ≡ Ok row
    → rows_of_records w skip more (recs ++ fields ∷ []) ≡ Ok (rows ++ row ∷ [])
rows-push w skip more recs fields rows row le so_far is = behind-push w more (headers skip) recs fields rows row le so_far is

-- the first fault
pub rows-fault : (w : ℕ) (skip more : Bool) (recs : List (List (List ℕ))) (fields : List (List ℕ)) (others : List (List (List ℕ))) (rows : List (List ℤ))
    (f : InFault)
    → headers skip ≤ length recs → rows_of_records w skip more recs ≡ Ok rows → row_in w more (headers skip + most_rows) (length recs + 1) fields ≡ Err f
    → rows_of_records w skip more (recs ++ fields ∷ others) ≡ Err f
rows-fault w skip more recs fields others rows f le so_far is = behind-fault w more (headers skip) recs fields others rows f le so_far is

-- a record that has a row is not behind the last one that may be
within_by : (last rec : ℕ) (b : Bool) (others : Result (List ℤ) InFault) (row : List ℤ) → nat_lt last rec ≡ b → cond b (Err fault.TooMany) others ≡ Ok row
    → rec ≤ last
within_by last rec true others row is e = cc
within_by last rec false others row is e = grind (arith, nat_tests)

-- a record that has a row is not behind the last one that may be
pub row_within : (w : ℕ) (more : Bool) (last rec : ℕ) (fields : List (List ℕ)) (row : List ℤ) → row_in w more last rec fields ≡ Ok row → rec ≤ last
row_within w more last rec fields row e = within_by last rec (nat_lt last rec) _ row refl e

-- the fault of a record is that of the file
pub fault_passes : {S T : Type 0} (one : Result S InFault) (file : Result T InFault) (f : InFault) → IsFaultTold one f → (one ≡ Err f → file ≡ Err f)
    → IsFaultTold file f
fault_passes one file fault.NoMemory h passes = tt
fault_passes one file fault.TooMany h passes = passes h
fault_passes one file (fault.Width rec) h passes = passes h
fault_passes one file (fault.NotNumber rec field) h passes = passes h
fault_passes one file (fault.Backwards rec) h passes = passes h
fault_passes one file (fault.NegativeTime rec) h passes = passes h
