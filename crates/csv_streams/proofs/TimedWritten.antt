-- The timed rows that are read are those that are written, and the fault that is told is the file's.
use Rattle.std.proofs.Common.{◌≡◌, ℕ, suc, ◌+◌, ◌-◌, ◌<◌, ◌≤◌, ℤ, pos, ◌<ℤ◌, int_lt, List, [], ◌∷◌, ◌++◌, length, take, drop, map, Bool, true, false}
use Rattle.std.proofs.Common.{cond, refl, sym, ◌∙◌, ap, subst, arith}
use Rattle.std.specs.Prelude.{None, Some, Result, Ok, Err}
use Rattle.std.proofs.lemmas.List.Elements.{All-nil, All-cons}
use Rattle.std.proofs.lemmas.Option.{same_Some}
use Rattle.river_base.proofs.Tests.{int_lt_not, int_lt_false}
use Rattle.river_base.specs.Held.{HaveWidth}
use Rattle.csv_streams.specs.Numbered.{before_later}
use Rattle.csv_streams.specs.Records.{csv_records}
use Rattle.csv_streams.specs.Rows.{row_in, headers, most_rows}
use Rattle.csv_streams.specs.Timed.{Entry, stamp_after, if_in_time, with_stamp, timed_in, and_later, timed_from, timed_of}
use Rattle.csv_streams.specs.TimedWritten.{WritesTimed, WriteTimed, FileWritesTimed, IsTimedFaultOf, ReadTimedAreWritten, TimedFaultsAre, ReadTimedHaveWidth}
use Rattle.csv_streams.specs.Faults.{IsStampedBelow, HasFault, rank, IsFirstFault}
use Rattle.csv_streams.specs.Written.{AllWrite}
use Rattle.csv_streams.specs.declared.fault.InFault.{InFault}
use Rattle.csv_streams.specs.declared.fault.InFault.TheVariants as fault
use Rattle.csv_streams.proofs.Faulty.{fault_field, wide, row_told, fault_row}
use Rattle.csv_streams.proofs.TimedIn.{first_then, from-fault, stamped_ok}
use Rattle.csv_streams.proofs.Writings.{written-is_read}
use Rattle.csv_streams.proofs.WrittenRows.{values_written, row_read, row_written, row-width}

abbrev values_read : List ℤ → Result (List ℤ) InFault
values_read xs = Ok xs

abbrev no_row : InFault → Result Entry InFault
no_row f = Err f

abbrev no_rows : InFault → Result (List Entry) InFault
no_rows f = Err f

-- WHAT IS READ

timed_read : (w last : ℕ) (t : ℤ) (rec : ℕ) (fields : List (List ℕ)) (e : Entry) → timed_in w last t rec fields ≡ Ok e → (rec ≤ last) × WritesTimed w t fields e
timed_read w last t rec fields e h =
    let (values, nought, turn) = stamped_ok rec t (row_in (w + 1) false last rec fields) e h in
    let r = row_read (w + 1) false last rec fields (e.0 ∷ e.1) values in
    (r.0, record { written = r.1; from_nought = int_lt_not e.0 (pos 0) nought; in_turn = int_lt_not e.0 t turn })

timed_written : (w last : ℕ) (t : ℤ) (rec : ℕ) (fields : List (List ℕ)) (e : Entry) → rec ≤ last → WritesTimed w t fields e
    → timed_in w last t rec fields ≡ Ok e
timed_written w last t rec fields e le writes =
    ap (with_stamp rec t) (row_written (w + 1) false last rec fields (e.0 ∷ e.1) le writes.written)
    ∙ ap (λ (b : Bool). if_in_time e (cond b (Err (fault.NegativeTime rec)) (cond (int_lt e.0 t) (Err (fault.Backwards rec)) (Ok tt))))
    (int_lt_false e.0 (pos 0) writes.from_nought)
    ∙ ap (λ (b : Bool). if_in_time e (cond b (Err (fault.Backwards rec)) (Ok tt))) (int_lt_false e.0 t writes.in_turn)

all_read : (w last : ℕ) (t : ℤ) (k : ℕ) (recs : List (List (List ℕ))) (es : List Entry) → timed_from w last t k recs ≡ Ok es
    → WriteTimed w t recs es × (length es ≤ last + 1 - k)
all_read w last t k [] [] h = (tt, omega arith)
all_read w last t k [] (e ∷ es) h = cc
all_read w last t k (fields ∷ recs) es h =
    let (e, others, first, later, parts) = first_then (timed_in w last t k fields) (λ y. timed_from w last y.0 (k + 1) recs) es h in
    let r = timed_read w last t k fields e first in
    let rest = all_read w last e.0 (k + 1) recs others later in
    rw parts ((r.1, rest.0), omega (arith, r.0, rest.1))

all_written : (w last : ℕ) (t : ℤ) (k : ℕ) (recs : List (List (List ℕ))) (es : List Entry) → WriteTimed w t recs es → length es + k ≤ last + 1
    → timed_from w last t k recs ≡ Ok es
all_written w last t k [] [] all few = refl
all_written w last t k [] (e ∷ es) all few = absurd all
all_written w last t k (fields ∷ recs) [] all few = absurd all
all_written w last t k (fields ∷ recs) (e ∷ es) all few =
    ap (λ (r : Result Entry InFault). and_later r (λ y. timed_from w last y.0 (k + 1) recs)) (timed_written w last t k fields e (omega (arith, few)) all.0)
    ∙ ap (λ (r : Result (List Entry) InFault). before_later (Ok e) r) (all_written w last e.0 (k + 1) recs es all.1 (omega (arith, few)))

read-written : (bytes : List ℕ) (w : ℕ) (skip : Bool) (es : List Entry) → timed_of bytes w skip ≡ Ok es → FileWritesTimed bytes w skip es
read-written bytes w skip es h =
    let r = all_read w (headers skip + most_rows) (pos 0) (headers skip + 1) (drop (headers skip) (csv_records bytes)) es h in
    let few = r.1 in
    record { written = r.0; few = omega (arith, few) }

written-read : (bytes : List ℕ) (w : ℕ) (skip : Bool) (es : List Entry) → FileWritesTimed bytes w skip es → timed_of bytes w skip ≡ Ok es
written-read bytes w skip es writes =
    let few = writes.few in
    all_written w (headers skip + most_rows) (pos 0) (headers skip + 1) (drop (headers skip) (csv_records bytes)) es writes.written (omega (arith, few))

-- the law: timed rows that are read are written
pub timed_are_written : ReadTimedAreWritten
timed_are_written bytes w skip es = (read-written bytes w skip es, written-read bytes w skip es)

widths : (w : ℕ) (t : ℤ) (recs : List (List (List ℕ))) (es : List Entry) → WriteTimed w t recs es → HaveWidth w (map (λ (e : Entry). e.1) es)
widths w t [] [] all = All-nil (λ row. length row ≡ w)
widths w t [] (e ∷ es) all = absurd all
widths w t (fields ∷ recs) [] all = absurd all
widths w t (fields ∷ recs) (e ∷ es) all =
    let long = row-width (w + 1) false fields (e.0 ∷ e.1) all.0.written in
    All-cons (λ r. length r ≡ w) e.1 (map (λ (d : Entry). d.1) es) (omega (arith, long)) (widths w e.0 recs es all.1)

-- the law: they have the width that was asked for
pub timed_have_width : ReadTimedHaveWidth
timed_have_width bytes w skip es h = widths w (pos 0) (drop (headers skip) (csv_records bytes)) es (read-written bytes w skip es h).written

-- THE FAULTS OF A RECORD

module _ (w last : ℕ) (t : ℤ) (rec : ℕ) (fields : List (List ℕ)) where
  abbrev Told : InFault → Type 0
  Told f = IsFirstFault (w + 1) false (Some t) last rec fields f

  abbrev Plain : InFault → Type 0
  Plain f = IsFirstFault (w + 1) false None last rec fields f

  abbrev Has : InFault → Type 0
  Has g = HasFault (w + 1) false (Some t) last rec fields g

  abbrev HasPlain : InFault → Type 0
  HasPlain g = HasFault (w + 1) false None last rec fields g

  -- what is wrong with the fields has nothing to do with the time
  plain_of : (g : InFault) → rank g < 3 → Has g → HasPlain g
  plain_of fault.TooMany l h = h
  plain_of (fault.Width r) l h = h
  plain_of (fault.NotNumber r k) l h = h
  plain_of (fault.NegativeTime r) l h = absurd (omega arith)
  plain_of (fault.Backwards r) l h = absurd (omega arith)
  plain_of fault.NoMemory l h = absurd (omega arith)

  of_plain : (g : InFault) → HasPlain g → Has g × (rank g < 3)
  of_plain fault.TooMany h = (h, omega arith)
  of_plain (fault.Width r) h = (h, omega arith)
  of_plain (fault.NotNumber r k) h = (h, omega arith)
  of_plain (fault.NegativeTime r) h = absurd h.1
  of_plain (fault.Backwards r) h = absurd h.1
  of_plain fault.NoMemory h = absurd h

  told_plain : (f : InFault) → Plain f → Told f
  told_plain f p =
      let has = of_plain f p.has in
      let low = has.1 in
      record { has = has.0; first = λ g l h. p.first g l (plain_of g (omega (arith, l, low)) h) }

  plain_told : (f : InFault) → rank f < 3 → Told f → Plain f
  plain_told f low p = record { has = plain_of f low p.has; first = λ g l h. p.first g l (of_plain g h).0 }

  -- the fields were read
  module _ (at : ℤ) (row : List ℤ) (read : row_in (w + 1) false last rec fields ≡ Ok (at ∷ row)) where
    clash : (g : InFault) → values_read (at ∷ row) ≡ Err g → ⊥
    clash g h = cc h

    -- so there is nothing wrong with them
    no_plain : (g : InFault) → rank g < 3 → Has g → ⊥
    no_plain fault.TooMany l h = let r = row_read (w + 1) false last rec fields (at ∷ row) read in let le = r.0 in omega (arith, le, h)
    no_plain (fault.Width r) l h = h.1 (wide (w + 1) false (length fields) (row_read (w + 1) false last rec fields (at ∷ row) read).1.0)
    no_plain (fault.NotNumber r k) l h =
        let all = (row_read (w + 1) false last rec fields (at ∷ row) read).1.1 in
        clash (fault.NotNumber rec k) (sym (values_written rec 1 (take (w + 1) fields) (at ∷ row) all) ∙ fault_field rec k (take (w + 1) fields) h.1)
    no_plain (fault.NegativeTime r) l h = absurd (omega arith)
    no_plain (fault.Backwards r) l h = absurd (omega arith)
    no_plain fault.NoMemory l h = absurd (omega arith)

    -- the first field writes the timestamp
    first_writes : (fs : List (List ℕ)) → AllWrite (take (suc w) fs) (at ∷ row) → (z : ℤ) → at <ℤ z → IsStampedBelow (Some t) z fs
    first_writes [] all z h = absurd all
    first_writes (f ∷ fs) all z h = (at, all.0, h)

    all_write : AllWrite (take (suc w) fields) (at ∷ row)
    all_write =
        let one : w + 1 ≡ suc w = omega arith in
        subst (λ (n : ℕ). AllWrite (take n fields) (at ∷ row)) one (row_read (w + 1) false last rec fields (at ∷ row) read).1.1

    -- and no other value
    only_writes : (fs : List (List ℕ)) → AllWrite (take (suc w) fs) (at ∷ row) → (z : ℤ) → IsStampedBelow (Some t) z fs → at <ℤ z
    only_writes [] all z h = absurd all
    only_writes (f ∷ fs) all z h =
        let same : at ≡ h.0 = same_Some _ _ (sym (written-is_read f at all.0) ∙ written-is_read f h.0 h.1) in
        subst (λ (x : ℤ). x <ℤ z) (sym same) h.2

    up_to_time : (g : InFault) → rank g < 4 → int_lt at (pos 0) ≡ false → Has g → ⊥
    up_to_time fault.TooMany l b h = no_plain fault.TooMany (omega arith) h
    up_to_time (fault.Width r) l b h = no_plain (fault.Width r) (omega arith) h
    up_to_time (fault.NotNumber r k) l b h = no_plain (fault.NotNumber r k) (omega arith) h
    up_to_time (fault.NegativeTime r) l b h = let low = only_writes fields all_write (pos 0) h.1 in grind (arith, low, b)
    up_to_time (fault.Backwards r) l b h = absurd (omega arith)
    up_to_time fault.NoMemory l b h = absurd (omega arith)

    is_below : (z : ℤ) → int_lt at z ≡ true → at <ℤ z
    is_below z h = grind (arith, h)

    one_fault : (g f : InFault) → no_row g ≡ no_row f → g ≡ f
    one_fault g f e = cc e

    in_time_told : (b c : Bool) → int_lt at (pos 0) ≡ b → int_lt at t ≡ c → (f : InFault)
        → if_in_time (at, row) (cond b (Err (fault.NegativeTime rec)) (cond c (Err (fault.Backwards rec)) (Ok tt))) ≡ Err f → Told f
    in_time_told true c p q f e =
        subst Told (one_fault (fault.NegativeTime rec) f e)
        (record { has = (refl, first_writes fields all_write (pos 0) (is_below (pos 0) p)); first = λ g l h. no_plain g l h })
    in_time_told false true p q f e =
        subst Told (one_fault (fault.Backwards rec) f e)
        (record { has = (refl, first_writes fields all_write t (is_below t q)); first = λ g l h. up_to_time g l p h })
    in_time_told false false p q f e = cc e

    below_is : (z : ℤ) → at <ℤ z → int_lt at z ≡ true
    below_is z h = grind (arith, h)

    in_nought : (Has (fault.NegativeTime rec) → ⊥) → int_lt at (pos 0) ≡ false
    in_nought h = step (int_lt at (pos 0)) refl where
      step : (b : Bool) → int_lt at (pos 0) ≡ b → int_lt at (pos 0) ≡ false
      step true e = absurd (h (refl, first_writes fields all_write (pos 0) (is_below (pos 0) e)))
      step false e = e

    abbrev timed : Bool → Bool → Result Entry InFault
    timed b c = if_in_time (at, row) (cond b (Err (fault.NegativeTime rec)) (cond c (Err (fault.Backwards rec)) (Ok tt)))

    fault_in_time : (f : InFault) → Told f → 2 < rank f → rank f < 5 → timed (int_lt at (pos 0)) (int_lt at t) ≡ Err f
    fault_in_time fault.TooMany p l m = absurd (omega arith)
    fault_in_time (fault.Width r) p l m = absurd (omega arith)
    fault_in_time (fault.NotNumber r k) p l m = absurd (omega arith)
    fault_in_time (fault.NegativeTime r) p l m =
        ap (λ (b : Bool). timed b (int_lt at t)) (below_is (pos 0) (only_writes fields all_write (pos 0) p.has.1))
        ∙ ap (λ (n : ℕ). Err (fault.NegativeTime n)) (sym p.has.0)
    fault_in_time (fault.Backwards r) p l m =
        ap (λ (b : Bool). timed b (int_lt at t)) (in_nought (p.first (fault.NegativeTime rec) (omega arith)))
        ∙ ap (timed false) (below_is t (only_writes fields all_write t p.has.1)) ∙ ap (λ (n : ℕ). Err (fault.Backwards n)) (sym p.has.0)
    fault_in_time fault.NoMemory p l m = absurd (omega arith)

  -- a record of a timestamp and a row has a value
  some_value : row_in (w + 1) false last rec fields ≡ Ok [] → ⊥
  some_value e = let long = row-width (w + 1) false fields [] (row_read (w + 1) false last rec fields [] e).1 in omega (arith, long)

  same_fault : (g f : InFault) → no_row g ≡ no_row f → g ≡ f
  same_fault g f e = cc e

  timed_told : (f : InFault) → timed_in w last t rec fields ≡ Err f → Told f
  timed_told f e = step (row_in (w + 1) false last rec fields) refl where
    step : (r : Result (List ℤ) InFault) → row_in (w + 1) false last rec fields ≡ r → Told f
    step (Err g) is = subst Told (same_fault g f (sym (ap (with_stamp rec t) is) ∙ e)) (told_plain g (row_told (w + 1) false last rec fields g is))
    step (Ok []) is = absurd (some_value is)
    step (Ok (at ∷ row)) is = in_time_told at row is (int_lt at (pos 0)) (int_lt at t) refl refl f (sym (ap (with_stamp rec t) is) ∙ e)

  of_time : (f : InFault) → Told f → 2 < rank f → rank f < 5 → timed_in w last t rec fields ≡ Err f
  of_time f p l m = step (row_in (w + 1) false last rec fields) refl where
    step : (r : Result (List ℤ) InFault) → row_in (w + 1) false last rec fields ≡ r → timed_in w last t rec fields ≡ Err f
    step (Err g) is =
        let has = of_plain g (row_told (w + 1) false last rec fields g is).has in
        let low = has.1 in
        absurd (p.first g (omega (arith, low, l)) has.0)
    step (Ok []) is = absurd (some_value is)
    step (Ok (at ∷ row)) is = ap (with_stamp rec t) is ∙ fault_in_time at row is f p l m

  of_fields : (f : InFault) → rank f < 3 → Told f → timed_in w last t rec fields ≡ Err f
  of_fields f low p = ap (with_stamp rec t) (fault_row (w + 1) false last rec fields f (plain_told f low p))

  fault_timed : (f : InFault) → Told f → timed_in w last t rec fields ≡ Err f
  fault_timed fault.TooMany p = of_fields fault.TooMany (omega arith) p
  fault_timed (fault.Width r) p = of_fields (fault.Width r) (omega arith) p
  fault_timed (fault.NotNumber r k) p = of_fields (fault.NotNumber r k) (omega arith) p
  fault_timed (fault.NegativeTime r) p = of_time (fault.NegativeTime r) p (omega arith) (omega arith)
  fault_timed (fault.Backwards r) p = of_time (fault.Backwards r) p (omega arith) (omega arith)
  fault_timed fault.NoMemory p = absurd p.has

-- THE FAULT OF A FILE

-- the first record with a fault
record FirstTimed (w last : ℕ) (t : ℤ) (n : ℕ) (recs : List (List (List ℕ))) (f : InFault) : Type 0 where
  front : List (List (List ℕ))
  here : List (List ℕ)
  others : List (List (List ℕ))
  given : List Entry
  parts : recs ≡ front ++ here ∷ others
  good : timed_from w last t n front ≡ Ok given
  bad : timed_in w last (stamp_after t given) (n + length front) here ≡ Err f

first_timed : (w last : ℕ) (t : ℤ) (n : ℕ) (recs : List (List (List ℕ))) (f : InFault) → timed_from w last t n recs ≡ Err f → FirstTimed w last t n recs f
first_timed w last t n [] f e = cc e
first_timed w last t n (fields ∷ recs) f e = step (timed_in w last t n fields) refl (λ y. first_timed w last y.0 (n + 1) recs f) where
  later_fault : (y : Entry) (r : Result (List Entry) InFault) → before_later (Ok y) r ≡ Err f → r ≡ Err f
  later_fault y (Ok ys) h = cc h
  later_fault y (Err g) h = let same : g ≡ f = cc h in ap (λ k. Err k) same

  only_fault : (g : InFault) → no_rows g ≡ no_rows f → g ≡ f
  only_fault g h = cc h

  step : (r : Result Entry InFault) → timed_in w last t n fields ≡ r
      → ((y : Entry) → timed_from w last y.0 (n + 1) recs ≡ Err f → FirstTimed w last y.0 (n + 1) recs f) → FirstTimed w last t n (fields ∷ recs) f
  step (Err g) is more =
      let same : g ≡ f = only_fault g (sym (ap (λ (r : Result Entry InFault). and_later r (λ y. timed_from w last y.0 (n + 1) recs)) is) ∙ e) in
      let at : n + 0 ≡ n = omega arith in
      record {
        front = [];
        here = fields;
        others = recs;
        given = [];
        parts = refl;
        good = refl;
        bad = ap (λ m. timed_in w last t m fields) at ∙ is
            ∙ ap (λ k. Err k) same;
      }
  step (Ok y) is more =
      let m = more y (later_fault y (timed_from w last y.0 (n + 1) recs)
      (sym (ap (λ (r : Result Entry InFault). and_later r (λ z. timed_from w last z.0 (n + 1) recs)) is) ∙ e)) in
      let at : n + suc (length m.front) ≡ n + 1 + length m.front = omega arith in
      record {
        front = fields ∷ m.front;
        here = m.here;
        others = m.others;
        given = y ∷ m.given;
        parts = ap (λ l. fields ∷ l) m.parts;
        good = ap (λ (r : Result Entry InFault). and_later r (λ z. timed_from w last z.0 (n + 1) m.front)) is
            ∙ ap (λ (r : Result (List Entry) InFault). before_later (Ok y) r) m.good;
        bad = ap (λ k. timed_in w last (stamp_after y.0 m.given) k m.here) at ∙ m.bad;
      }

fault_told : (bytes : List ℕ) (w : ℕ) (skip : Bool) (f : InFault) → timed_of bytes w skip ≡ Err f → IsTimedFaultOf bytes w skip f
fault_told bytes w skip f e =
    let last = headers skip + most_rows in
    let m = first_timed w last (pos 0) (headers skip + 1) (drop (headers skip) (csv_records bytes)) f e in
    let r = all_read w last (pos 0) (headers skip + 1) m.front m.given m.good in
    record {
      read = m.front;
      fields = m.here;
      others = m.others;
      rows = m.given;
      parts = m.parts;
      written = r.0;
      few = let few = r.1 in omega (arith, few);
      faulty = timed_told w last (stamp_after (pos 0) m.given) (headers skip + 1 + length m.front) m.here f m.bad;
    }

told_fault : (bytes : List ℕ) (w : ℕ) (skip : Bool) (f : InFault) → IsTimedFaultOf bytes w skip f → timed_of bytes w skip ≡ Err f
told_fault bytes w skip f h =
    let last = headers skip + most_rows in
    let few = h.few in
    ap (timed_from w last (pos 0) (headers skip + 1)) h.parts
    ∙ from-fault w last (pos 0) (headers skip + 1) (headers skip + 1 + length h.read) h.read h.fields h.others h.rows f
    (all_written w last (pos 0) (headers skip + 1) h.read h.rows h.written (omega (arith, few))) refl
    (fault_timed w last (stamp_after (pos 0) h.rows) (headers skip + 1 + length h.read) h.fields f h.faulty)

-- the law of the faults of timed files
pub timed_faults_are : TimedFaultsAre
timed_faults_are bytes w skip f = (fault_told bytes w skip f, told_fault bytes w skip f)
