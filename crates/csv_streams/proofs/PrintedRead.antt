-- What is printed of rows is a file of these rows.
use Rattle.std.proofs.Common.{rules, neg_ℤ, ◌≡◌, ℕ, zero, suc, ◌+◌, ◌<◌, ◌≤◌, ◌==◌, ℤ, pos, negsuc, Bool, true, false, List, [], ◌∷◌, ◌++◌, length, map, take, refl, sym, ap, ◌∙◌, subst, arith, inl, inr}
use Rattle.std.specs.Prelude.{if◌then◌else◌, codes, All}
use Rattle.std.specs.Fmt.{decimal, signed_decimal}
use Rattle.std.specs.List.{list_any}
use Rattle.std.proofs.lemmas.Bool.{ne_eqb, eq-eqb, le-leb}
use Rattle.std.proofs.lemmas.Fmt.{decimal_nonempty, digits_decimal, digits_value-decimal}
use Rattle.std.proofs.lemmas.List.{append-nil, length-append, length-map, take_all}
use Rattle.std.proofs.lemmas.List.Elements.{All-head, All-tail}
use Rattle.std.proofs.lemmas.Str.Parse.{IsNumeralModel, numerals_by_fold}
use Rattle.csv.specs.Machine.{next_record}
use Rattle.csv.specs.Reading.{default_config, records_from, strip_bom, records}
use Rattle.csv.specs.Writing.{default_writer, field_text, fields_text, is_blank, needs_byte, quoted, read_back, row_text}
use Rattle.csv.specs.declared.parser.State.TheVariants as st
use Rattle.csv.proofs.RoundTrip.{read-write, rows_text}
use Rattle.river_base.specs.Number.{IsValue}
use Rattle.river_base.specs.Row.{HaveWidth}
use Rattle.csv_streams.specs.Number.{value_after}
use Rattle.csv_streams.specs.Outcome.{more_values, row_line, texts_of}
use Rattle.csv_streams.specs.PrintedRead.{PrintedRowsAreRead}
use Rattle.csv_streams.specs.Records.{csv_records}
use Rattle.csv_streams.specs.Rows.{has_width}
use Rattle.csv_streams.specs.Writing.{AllDigits, Writes}
use Rattle.csv_streams.specs.Written.{AllWrite, WriteRows}
use Rattle.csv_streams.proofs.WrittenRows.{written_rows-read}

-- A VALUE

-- decimal digits are numerals of this value
pub numerals : IsNumeralModel AllDigits (value_after 0)
numerals = numerals_by_fold _ (search rules) value_after (search rules)

-- no byte of it needs quotes, there is one, and the first is none of a byte-order mark
record IsPlain (f : List ℕ) : Type 0 where
  plain : list_any (needs_byte default_writer) f ≡ false
  first : ℕ
  others : List ℕ
  is : f ≡ first ∷ others
  low : first < 200

plain_byte : (b : ℕ) → 45 ≤ b → needs_byte default_writer b ≡ false
plain_byte b h =
    let a : (b == 44) ≡ false = ne_eqb b 44 (λ e. absurd (omega (arith, h, e))) in
    let q : (b == 34) ≡ false = ne_eqb b 34 (λ e. absurd (omega (arith, h, e))) in
    let r : (b == 13) ≡ false = ne_eqb b 13 (λ e. absurd (omega (arith, h, e))) in
    let n : (b == 10) ≡ false = ne_eqb b 10 (λ e. absurd (omega (arith, h, e))) in
    rw (a, q, r, n) refl

plain_digits : (ds : List ℕ) → AllDigits ds → list_any (needs_byte default_writer) ds ≡ false
plain_digits [] h = refl
plain_digits (d ∷ ds) h = let low = h.0 in rw (plain_byte d (omega (arith, low)), plain_digits ds h.2) refl

digits_plain : (ds : List ℕ) → AllDigits ds → 0 < length ds → IsPlain ds
digits_plain [] h n = absurd (omega (arith, n))
digits_plain (d ∷ ds) h n = let high = h.1 in record { plain = plain_digits (d ∷ ds) h; first = d; others = ds; is = refl; low = omega (arith, high) }

minus_plain : (ds : List ℕ) → AllDigits ds → IsPlain (45 ∷ ds)
minus_plain ds h = record { plain = rw (plain_byte 45 (omega arith), plain_digits ds h) refl; first = 45; others = ds; is = refl; low = omega arith }

value_plain : (z : ℤ) → IsValue z → IsPlain (signed_decimal z)
value_plain (pos n) h = digits_plain (decimal n) (digits_decimal numerals n (omega (arith, h))) (decimal_nonempty n (omega (arith, h)))
value_plain (negsuc n) h = minus_plain (decimal (suc n)) (digits_decimal numerals (suc n) (omega (arith, h)))

value_written : (z : ℤ) → IsValue z → Writes (signed_decimal z) z
value_written (pos n) h =
    let ds = decimal n in
    let v : value_after 0 ds ≡ n = digits_value-decimal numerals n (omega (arith, h)) in
    record {
      before = [];
      sign = [];
      digits = ds;
      after = [];
      parts = sym (append-nil ds);
      blank = tt;
      some = decimal_nonempty n (omega (arith, h));
      decimal = digits_decimal numerals n (omega (arith, h));
      blank_after = tt;
      value = inr (inl refl, omega (arith, v, h), ap pos (sym v));
    }
value_written (negsuc n) h =
    let ds = decimal (suc n) in
    let v : value_after 0 ds ≡ suc n = digits_value-decimal numerals (suc n) (omega (arith, h)) in
    record {
      before = [];
      sign = codes "-";
      digits = ds;
      after = [];
      parts = ap (λ l. 45 ∷ l) (sym (append-nil ds));
      blank = tt;
      some = decimal_nonempty (suc n) (omega (arith, h));
      decimal = digits_decimal numerals (suc n) (omega (arith, h));
      blank_after = tt;
      value = inl (refl, omega (arith, v, h), ap (λ m. neg_ℤ (pos m)) (sym v));
    }

-- A ROW

-- the fields that are printed of a row
abbrev pub fields_of : List ℤ → List (List ℕ)
fields_of row = map signed_decimal row

field_plain : (z : ℤ) → IsValue z → field_text default_writer (signed_decimal z) ≡ signed_decimal z
field_plain z h = ap (λ b. if b then quoted default_writer (signed_decimal z) else signed_decimal z) (value_plain z h).plain

more_fields : (zs : List ℤ) → All IsValue zs → fields_text default_writer (fields_of zs) ≡ more_values zs
unfolding fields_text
more_fields [] h = refl
more_fields (z ∷ zs) h =
    λ i. 44 ∷ (field_plain z (All-head IsValue z zs h) i ++ more_fields zs (All-tail IsValue z zs h) i)

not_blank : (z : ℤ) (zs : List ℤ) → IsValue z → is_blank default_writer (fields_of (z ∷ zs)) ≡ false
unfolding is_blank
not_blank z [] h =
    let p = value_plain z h in
    ap (λ f. length f == 0) (field_plain z h ∙ p.is) ∙ ne_eqb (suc (length p.others)) 0 (λ e. absurd (omega (arith, e)))
not_blank z (y ∷ ys) h = refl

line_is : (z : ℤ) (zs : List ℤ) → All IsValue (z ∷ zs) → row_text default_writer (fields_of (z ∷ zs)) ≡ row_line (z ∷ zs)
line_is z zs h =
    let here = All-head IsValue z zs h in
    ap (λ b. (field_text default_writer (signed_decimal z) ++ fields_text default_writer (fields_of zs)) ++ ((if b then 34 ∷ 34 ∷ [] else []) ++ 10 ∷ []))
    (not_blank z zs here)
    ∙ (λ i. (field_plain z here i ++ more_fields zs (All-tail IsValue z zs h) i) ++ 10 ∷ [])

-- THE FILE

-- all are values of 64 bits
abbrev pub AreValues : List (List ℤ) → Type 0
AreValues rows = All (λ row. All IsValue row) rows

lines_are : (w : ℕ) (rows : List (List ℤ)) → 0 < w → HaveWidth w rows → AreValues rows → rows_text (map fields_of rows) ≡ texts_of row_line rows
unfolding rows_text
lines_are w [] p h v = refl
lines_are w ([] ∷ rows) p h v = let e = All-head (λ row. length row ≡ w) [] rows h in absurd (omega (arith, p, e))
lines_are w ((z ∷ zs) ∷ rows) p h v =
    let V : List ℤ → Type 0 = λ row. All IsValue row in
    let one = line_is z zs (All-head V (z ∷ zs) rows v) in
    let more = lines_are w rows p (All-tail (λ row. length row ≡ w) (z ∷ zs) rows h) (All-tail V (z ∷ zs) rows v) in
    λ i. one i ++ more i

back_is : (w : ℕ) (rows : List (List ℤ)) → 0 < w → HaveWidth w rows → map read_back (map fields_of rows) ≡ map fields_of rows
back_is w [] p h = refl
back_is w ([] ∷ rows) p h = let e = All-head (λ row. length row ≡ w) [] rows h in absurd (omega (arith, p, e))
back_is w ((z ∷ zs) ∷ rows) p h = ap (λ l. fields_of (z ∷ zs) ∷ l) (back_is w rows p (All-tail (λ row. length row ≡ w) (z ∷ zs) rows h))

all_read : (rows : List (List (List ℕ))) (n : ℕ) → length rows < n → records_from default_config n st.StartRecord (rows_text rows) ≡ map read_back rows
unfolding records_from rows_text next_record
all_read [] zero h = absurd (omega (arith, h))
all_read [] (suc n) h = refl
all_read (row ∷ rows) zero h = absurd (omega (arith, h))
all_read (row ∷ rows) (suc n) h = rw (read-write row (rows_text rows)) (ap (λ (t : List (List (List ℕ))). read_back row ∷ t) (all_read rows n (omega (arith, h))))

as_many_bytes : (rows : List (List ℤ)) → length rows ≤ length (texts_of row_line rows)
as_many_bytes [] = omega arith
as_many_bytes (row ∷ rows) =
    let l = length-append (row_line row) (texts_of row_line rows) in
    let one = line_long row in
    let more = as_many_bytes rows in
    omega (arith, l, one, more)
  where
    line_long : (row : List ℤ) → 1 ≤ length (row_line row)
    line_long [] = omega arith
    line_long (z ∷ zs) = let l = length-append (signed_decimal z ++ more_values zs) (10 ∷ []) in omega (arith, l)

no_mark : (c : ℕ) (rest : List ℕ) → c < 200 → strip_bom (c ∷ rest) ≡ c ∷ rest
unfolding strip_bom
no_mark c [] h = refl
no_mark c (b ∷ []) h = refl
no_mark c (b ∷ d ∷ rest) h = let e : (c == 239) ≡ false = ne_eqb c 239 (λ e. absurd (omega (arith, h, e))) in rw e refl

unmarked : (w : ℕ) (rows : List (List ℤ)) → 0 < w → HaveWidth w rows → AreValues rows → strip_bom (texts_of row_line rows) ≡ texts_of row_line rows
unfolding strip_bom
unmarked w [] p h v = refl
unmarked w ([] ∷ rows) p h v = let e = All-head (λ row. length row ≡ w) [] rows h in absurd (omega (arith, p, e))
unmarked w ((z ∷ zs) ∷ rows) p h v =
    let V : List ℤ → Type 0 = λ row. All IsValue row in
    let f = value_plain z (All-head IsValue z zs (All-head V (z ∷ zs) rows v)) in
    let text : List ℕ → List ℕ = λ l. ((l ++ more_values zs) ++ codes "\n") ++ texts_of row_line rows in
    ap (λ l. strip_bom (text l)) f.is
    ∙ no_mark f.first (((f.others ++ more_values zs) ++ codes "\n") ++ texts_of row_line rows) f.low
    ∙ ap text (sym f.is)

-- the records of what is printed are these fields
pub records_are : (w : ℕ) (rows : List (List ℤ)) → 0 < w → HaveWidth w rows → AreValues rows → csv_records (texts_of row_line rows) ≡ map fields_of rows
records_are w rows p h v =
    let bytes = texts_of row_line rows in
    let many = as_many_bytes rows in
    let size : length (map fields_of rows) ≡ length rows = length-map rows fields_of in
    ap (records default_config) (unmarked w rows p h v)
    ∙ ap (records_from default_config (length bytes + 1) st.StartRecord) (sym (lines_are w rows p h v))
    ∙ all_read (map fields_of rows) (length bytes + 1) (omega (arith, many, size))
    ∙ back_is w rows p h

-- ITS ROWS

wide : (w : ℕ) (more : Bool) (n : ℕ) → n ≡ w → has_width w more n ≡ true
wide w true n e = le-leb w n (omega (arith, e))
wide w false n e = eq-eqb n w e

all_written : (row : List ℤ) → All IsValue row → AllWrite (fields_of row) row
all_written [] v = tt
all_written (z ∷ zs) v = (value_written z (All-head IsValue z zs v), all_written zs (All-tail IsValue z zs v))

-- and they write these rows
pub rows_written : (w : ℕ) (more : Bool) (rows : List (List ℤ)) → HaveWidth w rows → AreValues rows → WriteRows w more (map fields_of rows) rows
rows_written w more [] h v = tt
rows_written w more (row ∷ rows) h v =
    let V : List ℤ → Type 0 = λ row. All IsValue row in
    let e = All-head (λ row. length row ≡ w) row rows h in
    let l = length-map row signed_decimal in
    let all : take w (fields_of row) ≡ fields_of row = take_all w (fields_of row) (omega (arith, l, e)) in (
      (wide w more (length (fields_of row)) (l ∙ e), subst (λ fs. AllWrite fs row) (sym all) (all_written row (All-head V row rows v))),
      rows_written w more rows (All-tail (λ row. length row ≡ w) row rows h) (All-tail V row rows v),
    )

-- rows that are printed are read as themselves
pub printed_rows_are_read : PrintedRowsAreRead
printed_rows_are_read w more rows p h v few =
    written_rows-read (texts_of row_line rows) w false more rows (record {
      written = subst (λ recs. WriteRows w more recs rows) (sym (records_are w rows p h v)) (rows_written w more rows h v);
      few = few;
    })
