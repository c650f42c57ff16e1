-- The rows that are read are those that are written.
use Rattle.std.proofs.Common.{◌≡◌, ℕ, ◌+◌, ◌-◌, ◌≤◌, List, [], ◌∷◌, length, take, drop, Bool, true, false, cond, refl, ◌∙◌, ap, arith, nat_lt}
use Rattle.std.specs.Prelude.{ℤ, IsTrue, Option, None, Some, Result, Ok, Err}
use Rattle.std.proofs.lemmas.Bool.Decides.{nat_tests}
use Rattle.std.proofs.lemmas.List.{length-take-le}
use Rattle.std.proofs.lemmas.List.Elements.{All-nil, All-cons}
use Rattle.river_base.specs.Held.{HaveWidth}
use Rattle.csv_streams.specs.Number.{number_in}
use Rattle.csv_streams.specs.Numbered.{before_later, numbered_results}
use Rattle.csv_streams.specs.Records.{csv_records}
use Rattle.csv_streams.specs.Rows.{value_or, value_of_field, has_width, row_in, headers, most_rows, rows_of_file}
use Rattle.csv_streams.specs.Written.{AllWrite, WritesRow, WriteRows, FileWrites}
use Rattle.csv_streams.specs.declared.fault.InFault.{InFault}
use Rattle.csv_streams.specs.declared.fault.InFault.TheVariants as fault
use Rattle.csv_streams.proofs.Numbered.{first_and_later}
use Rattle.csv_streams.proofs.Writings.{read-is_written, written-is_read}

-- fields
value_some : (rec k : ℕ) (o : Option ℤ) (x : ℤ) → value_or rec k o ≡ Ok x → o ≡ Some x
value_some rec k (Some y) x e = let is : y ≡ x = cc in ap (λ (z : ℤ). Some z) is
value_some rec k None x e = cc

-- fields that are read write their values
pub values_read : (rec k : ℕ) (fields : List (List ℕ)) (xs : List ℤ) → numbered_results (value_of_field rec) k fields ≡ Ok xs → AllWrite fields xs
values_read rec k [] [] e = tt
values_read rec k [] (x ∷ xs) e = cc
values_read rec k (f ∷ fs) xs e =
    let (y, ys, first, later, parts) = first_and_later (value_of_field rec k f) (numbered_results (value_of_field rec) (k + 1) fs) xs e in
    rw parts (read-is_written f y (value_some rec k (number_in f) y first), values_read rec (k + 1) fs ys later)

-- fields that write values are read as them
pub values_written : (rec k : ℕ) (fields : List (List ℕ)) (xs : List ℤ) → AllWrite fields xs → numbered_results (value_of_field rec) k fields ≡ Ok xs
values_written rec k [] [] all = refl
values_written rec k [] (x ∷ xs) all = absurd all
values_written rec k (f ∷ fs) [] all = absurd all
values_written rec k (f ∷ fs) (x ∷ xs) all =
    ap (λ (o : Option ℤ). before_later (value_or rec k o) (numbered_results (value_of_field rec) (k + 1) fs)) (written-is_read f x all.0)
    ∙ ap (λ (r : Result (List ℤ) InFault). before_later (Ok x) r) (values_written rec (k + 1) fs xs all.1)

-- a record
row_by : (w : ℕ) (more : Bool) (last rec : ℕ) (fields : List (List ℕ)) (row : List ℤ) (late fits : Bool) → nat_lt last rec ≡ late
    → has_width w more (length fields) ≡ fits
    → cond late (Err fault.TooMany) (cond fits (numbered_results (value_of_field rec) 1 (take w fields)) (Err (fault.Width rec))) ≡ Ok row
    → (rec ≤ last) × WritesRow w more fields row
row_by w more last rec fields row true fits is has e = cc
row_by w more last rec fields row false true is has e = (grind (arith, nat_tests), (has, values_read rec 1 (take w fields) row e))
row_by w more last rec fields row false false is has e = cc

-- a record that is read writes its row
pub row_read : (w : ℕ) (more : Bool) (last rec : ℕ) (fields : List (List ℕ)) (row : List ℤ) → row_in w more last rec fields ≡ Ok row
    → (rec ≤ last) × WritesRow w more fields row
row_read w more last rec fields row e = row_by w more last rec fields row (nat_lt last rec) (has_width w more (length fields)) refl refl e

-- a record that writes a row is read as it
pub row_written : (w : ℕ) (more : Bool) (last rec : ℕ) (fields : List (List ℕ)) (row : List ℤ) → rec ≤ last → WritesRow w more fields row
    → row_in w more last rec fields ≡ Ok row
row_written w more last rec fields row le writes =
    let early : nat_lt last rec ≡ false = grind (arith, nat_tests) in
    ap (λ (b : Bool). cond b (Err fault.TooMany)
    (cond (has_width w more (length fields)) (numbered_results (value_of_field rec) 1 (take w fields)) (Err (fault.Width rec)))) early
    ∙ ap (λ (b : Bool). cond b (numbered_results (value_of_field rec) 1 (take w fields)) (Err (fault.Width rec))) writes.0
    ∙ values_written rec 1 (take w fields) row writes.1

-- records
pub rows_read : (w : ℕ) (more : Bool) (last k : ℕ) (recs : List (List (List ℕ))) (rows : List (List ℤ)) → numbered_results (row_in w more last) k recs ≡ Ok rows
    → WriteRows w more recs rows × (length rows ≤ last + 1 - k)
rows_read w more last k [] [] e = (tt, omega arith)
rows_read w more last k [] (row ∷ rows) e = cc
rows_read w more last k (fields ∷ recs) rows e =
    let (row, others, first, later, parts) = first_and_later (row_in w more last k fields) (numbered_results (row_in w more last) (k + 1) recs) rows e in
    let r = row_read w more last k fields row first in
    let rest = rows_read w more last (k + 1) recs others later in
    rw parts ((r.1, rest.0), omega (arith, r.0, rest.1))

-- records that write rows are read as them
pub rows_written : (w : ℕ) (more : Bool) (last k : ℕ) (recs : List (List (List ℕ))) (rows : List (List ℤ)) → WriteRows w more recs rows
    → length rows + k ≤ last + 1 → numbered_results (row_in w more last) k recs ≡ Ok rows
rows_written w more last k [] [] all few = refl
rows_written w more last k [] (row ∷ rows) all few = absurd all
rows_written w more last k (fields ∷ recs) [] all few = absurd all
rows_written w more last k (fields ∷ recs) (row ∷ rows) all few =
    ap (λ (r : Result (List ℤ) InFault). before_later r (numbered_results (row_in w more last) (k + 1) recs))
    (row_written w more last k fields row (omega (arith, few)) all.0)
    ∙ ap (λ (r : Result (List (List ℤ)) InFault). before_later (Ok row) r) (rows_written w more last (k + 1) recs rows all.1 (omega (arith, few)))

-- the law: what is read is written
pub read_rows-written : (bytes : List ℕ) (w : ℕ) (skip more : Bool) (rows : List (List ℤ)) → rows_of_file bytes w skip more ≡ Ok rows
    → FileWrites bytes w skip more rows
read_rows-written bytes w skip more rows e =
    let r = rows_read w more (headers skip + most_rows) (headers skip + 1) (drop (headers skip) (csv_records bytes)) rows e in
    record { written = r.0; few = omega (arith, r.1) }

-- the law: what is written is read
pub written_rows-read : (bytes : List ℕ) (w : ℕ) (skip more : Bool) (rows : List (List ℤ)) → FileWrites bytes w skip more rows
    → rows_of_file bytes w skip more ≡ Ok rows
written_rows-read bytes w skip more rows writes =
    rows_written w more (headers skip + most_rows) (headers skip + 1) (drop (headers skip) (csv_records bytes)) rows writes.written (omega (arith, writes.few))

-- as many values as fields that write them
values-length : (fields : List (List ℕ)) (xs : List ℤ) → AllWrite fields xs → length xs ≡ length fields
values-length [] [] all = refl
values-length [] (x ∷ xs) all = absurd all
values-length (f ∷ fs) [] all = absurd all
values-length (f ∷ fs) (x ∷ xs) all = omega (arith, values-length fs xs all.1)

enough : (w n : ℕ) (more : Bool) → IsTrue (has_width w more n) → w ≤ n
enough w n true t = grind (arith, nat_tests, t)
enough w n false t = grind (arith, nat_tests, t)

-- a row that is written has its width
pub row-width : (w : ℕ) (more : Bool) (fields : List (List ℕ)) (row : List ℤ) → WritesRow w more fields row → length row ≡ w
row-width w more fields row writes = values-length (take w fields) row writes.1 ∙ length-take-le w fields (enough w (length fields) more writes.0)

rows-width : (w : ℕ) (more : Bool) (recs : List (List (List ℕ))) (rows : List (List ℤ)) → WriteRows w more recs rows → HaveWidth w rows
rows-width w more [] [] all = All-nil (λ row. length row ≡ w)
rows-width w more [] (row ∷ rows) all = absurd all
rows-width w more (fields ∷ recs) [] all = absurd all
rows-width w more (fields ∷ recs) (row ∷ rows) all =
    All-cons (λ r. length r ≡ w) row rows (row-width w more fields row all.0) (rows-width w more recs rows all.1)

-- the law: rows that are read have the width that was asked for
pub read_rows-width : (bytes : List ℕ) (w : ℕ) (skip more : Bool) (rows : List (List ℤ)) → rows_of_file bytes w skip more ≡ Ok rows → HaveWidth w rows
read_rows-width bytes w skip more rows e = rows-width w more (drop (headers skip) (csv_records bytes)) rows (read_rows-written bytes w skip more rows e).written
