-- One timed record more: the header, a row, or the first fault.
use Rattle.std.proofs.Common.{◌≡◌, ℕ, zero, suc, ◌+◌, ◌≤◌, ℤ, pos, List, [], ◌∷◌, ◌++◌, length, drop, Bool, true, false, cond, get_or, refl, sym, ◌∙◌, ap}
use Rattle.std.proofs.Common.{arith, length-append, int_lt}
use Rattle.std.specs.Prelude.{Result, Ok, Err}
use Rattle.std.proofs.lemmas.List.{drop-append-le, drop_all, length-drop}
use Rattle.csv_streams.specs.Numbered.{before_later}
use Rattle.csv_streams.specs.Rows.{row_in, headers, most_rows}
use Rattle.csv_streams.specs.Timed.{Entry, stamp_after, if_in_time, with_stamp, timed_in, and_later, timed_from, timed_rows_in}
use Rattle.csv_streams.specs.declared.fault.InFault.{InFault}
use Rattle.csv_streams.specs.declared.fault.InFault.TheVariants as fault
use Rattle.csv_streams.proofs.Numbered.{first_and_later}
use Rattle.csv_streams.proofs.RowsIn.{row_within}

-- entries without a fault
abbrev pub all_told : List Entry → Result (List Entry) InFault
all_told es = Ok es

-- the timestamp of the last row
pub stamp_last : (t : ℤ) (es : List Entry) (n : ℕ) (d : Entry) → length es ≡ suc n → stamp_after t es ≡ (get_or es n d).0
stamp_last t [] n d h = absurd (omega (arith, h))
stamp_last t (e ∷ []) zero d h = refl
stamp_last t (e ∷ []) (suc n) d h = absurd (omega (arith, h))
stamp_last t (e ∷ f ∷ es) zero d h = absurd (omega (arith, h))
stamp_last t (e ∷ f ∷ es) (suc n) d h = stamp_last e.0 (f ∷ es) n d (omega (arith, h))

-- what was read first, and what after it
pub first_then : (r : Result Entry InFault) (later : Entry → Result (List Entry) InFault) (es : List Entry) → and_later r later ≡ Ok es
    → (y : Entry) × (ys : List Entry) × (r ≡ Ok y) × (later y ≡ Ok ys) × (es ≡ y ∷ ys)
first_then (Ok y) later es e =
    let (z, zs, first, more, parts) = first_and_later (Ok y) (later y) es e in
    let same : y ≡ z = cc in
    (z, zs, first, ap later (sym same) ∙ more, parts)
first_then (Err f) later es e = cc

-- another record
pub from-push : (w last : ℕ) (t : ℤ) (n k : ℕ) (recs : List (List (List ℕ))) (fields : List (List ℕ)) (es : List Entry) (e : Entry)
    → timed_from w last t n recs ≡ Ok es → n + length recs ≡ k → timed_in w last (stamp_after t es) k fields ≡ Ok e
    → timed_from w last t n (recs ++ fields ∷ []) ≡ Ok (es ++ e ∷ [])
from-push w last t n k [] fields es e so_far at is =
    let none : [] ≡ es = cc in
    let here : n ≡ k = omega (arith, at) in
    let first : timed_in w last t n fields ≡ Ok e = ap (λ (m : ℕ). timed_in w last t m fields) here
    ∙ ap (λ (l : List Entry). timed_in w last (stamp_after t l) k fields) none ∙ is in
    ap (λ (r : Result Entry InFault). and_later r (λ y. timed_from w last y.0 (n + 1) [])) first ∙ ap (λ (l : List Entry). all_told (l ++ e ∷ [])) none
from-push w last t n k (f ∷ recs) fields es e so_far at is =
    let (y, ys, first, later, parts) = first_then (timed_in w last t n f) (λ z. timed_from w last z.0 (n + 1) recs) es so_far in
    let next : timed_in w last (stamp_after y.0 ys) k fields ≡ Ok e = ap (λ (l : List Entry). timed_in w last (stamp_after t l) k fields) (sym parts) ∙ is in
    ap (λ (r : Result Entry InFault). and_later r (λ z. timed_from w last z.0 (n + 1) (recs ++ fields ∷ []))) first
    ∙ ap (λ (r : Result (List Entry) InFault). before_later (Ok y) r) (from-push w last y.0 (n + 1) k recs fields ys e later (omega (arith, at)) next)
    ∙ ap (λ (l : List Entry). all_told (l ++ e ∷ [])) (sym parts)

-- the first fault, whatever follows
pub from-fault : (w last : ℕ) (t : ℤ) (n k : ℕ) (recs : List (List (List ℕ))) (fields : List (List ℕ)) (others : List (List (List ℕ))) (es : List Entry)
    (f : InFault)
    → timed_from w last t n recs ≡ Ok es → n + length recs ≡ k → timed_in w last (stamp_after t es) k fields ≡ Err f
    → timed_from w last t n (recs ++ fields ∷ others) ≡ Err f
from-fault w last t n k [] fields others es f so_far at is =
    let none : [] ≡ es = cc in
    let here : n ≡ k = omega (arith, at) in
    let first : timed_in w last t n fields ≡ Err f = ap (λ (m : ℕ). timed_in w last t m fields) here
    ∙ ap (λ (l : List Entry). timed_in w last (stamp_after t l) k fields) none ∙ is in
    ap (λ (r : Result Entry InFault). and_later r (λ y. timed_from w last y.0 (n + 1) others)) first
from-fault w last t n k (g ∷ recs) fields others es f so_far at is =
    let (y, ys, first, later, parts) = first_then (timed_in w last t n g) (λ z. timed_from w last z.0 (n + 1) recs) es so_far in
    let next : timed_in w last (stamp_after y.0 ys) k fields ≡ Err f = ap (λ (l : List Entry). timed_in w last (stamp_after t l) k fields) (sym parts) ∙ is in
    ap (λ (r : Result Entry InFault). and_later r (λ z. timed_from w last z.0 (n + 1) (recs ++ fields ∷ others))) first
    ∙ ap (λ (r : Result (List Entry) InFault). before_later (Ok y) r) (from-fault w last y.0 (n + 1) k recs fields others ys f later (omega (arith, at)) next)

-- the timed rows of the records without the first h
abbrev behind : ℕ → ℕ → List (List (List ℕ)) → Result (List Entry) InFault
behind w h recs = timed_from w (h + most_rows) (pos 0) (h + 1) (drop h recs)

behind-header : (w h : ℕ) (recs : List (List (List ℕ))) (fields : List (List ℕ)) → length recs + 1 ≤ h → behind w h (recs ++ fields ∷ []) ≡ behind w h recs
behind-header w h recs fields le =
    ap (timed_from w (h + most_rows) (pos 0) (h + 1))
    (drop_all h (recs ++ fields ∷ []) (omega (arith, length-append recs (fields ∷ []), le)) ∙ sym (drop_all h recs (omega (arith, le))))

behind-push : (w h : ℕ) (recs : List (List (List ℕ))) (fields : List (List ℕ)) (es : List Entry) (e : Entry) → h ≤ length recs → behind w h recs ≡ Ok es
    → timed_in w (h + most_rows) (stamp_after (pos 0) es) (length recs + 1) fields ≡ Ok e → behind w h (recs ++ fields ∷ []) ≡ Ok (es ++ e ∷ [])
behind-push w h recs fields es e le so_far is =
    ap (timed_from w (h + most_rows) (pos 0) (h + 1)) (drop-append-le h recs (fields ∷ []) le)
    ∙ from-push w (h + most_rows) (pos 0) (h + 1) (length recs + 1) (drop h recs) fields es e so_far (omega (arith, length-drop h recs, le)) is

behind-fault : (w h : ℕ) (recs : List (List (List ℕ))) (fields : List (List ℕ)) (others : List (List (List ℕ))) (es : List Entry) (f : InFault)
    → h ≤ length recs → behind w h recs ≡ Ok es
    → timed_in w (h + most_rows) (stamp_after (pos 0) es) (length recs + 1) fields ≡ Err f → behind w h (recs ++ fields ∷ others) ≡ Err f
behind-fault w h recs fields others es f le so_far is =
    ap (timed_from w (h + most_rows) (pos 0) (h + 1)) (drop-append-le h recs (fields ∷ others) le)
    ∙ from-fault w (h + most_rows) (pos 0) (h + 1) (length recs + 1) (drop h recs) fields others es f so_far (omega (arith, length-drop h recs, le)) is

-- nothing is read at first
pub timed-none : (w : ℕ) (skip : Bool) → timed_rows_in w skip [] ≡ Ok []
timed-none w true = refl
timed-none w false = refl

-- the header is passed over
pub timed-header : (w : ℕ) (skip : Bool) (recs : List (List (List ℕ))) (fields : List (List ℕ)) → length recs + 1 ≤ headers skip
    → timed_rows_in w skip (recs ++ fields ∷ []) ≡ timed_rows_in w skip recs
timed-header w skip recs fields le = behind-header w (headers skip) recs fields le

-- another row
pub timed-push : (w : ℕ) (skip : Bool) (recs : List (List (List ℕ))) (fields : List (List ℕ)) (es : List Entry) (e : Entry) → headers skip ≤ length recs
    → timed_rows_in w skip recs ≡ Ok es
    → timed_in w (headers skip + most_rows) (stamp_after (pos 0) es) (length recs + 1) fields ≡ Ok e
    → timed_rows_in w skip (recs ++ fields ∷ []) ≡ Ok (es ++ e ∷ [])
timed-push w skip recs fields es e le so_far is = behind-push w (headers skip) recs fields es e le so_far is

-- the first fault
pub timed-fault : (w : ℕ) (skip : Bool) (recs : List (List (List ℕ))) (fields : List (List ℕ)) (others : List (List (List ℕ))) (es : List Entry) (f : InFault)
    → headers skip ≤ length recs
    → timed_rows_in w skip recs ≡ Ok es → timed_in w (headers skip + most_rows) (stamp_after (pos 0) es) (length recs + 1) fields ≡ Err f
    → timed_rows_in w skip (recs ++ fields ∷ others) ≡ Err f
timed-fault w skip recs fields others es f le so_far is = behind-fault w (headers skip) recs fields others es f le so_far is

-- a timed row is one whose values are read, and whose time is right
in_time_ok : (rec : ℕ) (t at : ℤ) (b c : Bool) (e d : Entry) → int_lt at (pos 0) ≡ b → int_lt at t ≡ c
    → if_in_time e (cond b (Err (fault.NegativeTime rec)) (cond c (Err (fault.Backwards rec)) (Ok tt))) ≡ Ok d
    → (e ≡ d) × (int_lt at (pos 0) ≡ false) × (int_lt at t ≡ false)
in_time_ok rec t at true c e d p q h = cc
in_time_ok rec t at false true e d p q h = cc
in_time_ok rec t at false false e d p q h = let same : e ≡ d = cc in (same, p, q)

-- a timed row has these values, and its time is right
pub stamped_ok : (rec : ℕ) (t : ℤ) (r : Result (List ℤ) InFault) (e : Entry) → with_stamp rec t r ≡ Ok e
    → (r ≡ Ok (e.0 ∷ e.1)) × (int_lt e.0 (pos 0) ≡ false) × (int_lt e.0 t ≡ false)
stamped_ok rec t (Err f) e h = cc
stamped_ok rec t (Ok []) e h = cc
stamped_ok rec t (Ok (at ∷ row)) e h =
    let (same, p, q) = in_time_ok rec t at (int_lt at (pos 0)) (int_lt at t) (at, row) e refl refl h in
    (λ i. Ok ((same i).0 ∷ (same i).1), ap (λ (d : Entry). int_lt d.0 (pos 0)) (sym same) ∙ p, ap (λ (d : Entry). int_lt d.0 t) (sym same) ∙ q)

-- a record that has a timed row is not behind the last one that may be
pub timed_within : (w last : ℕ) (t : ℤ) (rec : ℕ) (fields : List (List ℕ)) (e : Entry) → timed_in w last t rec fields ≡ Ok e → rec ≤ last
timed_within w last t rec fields e h = row_within (w + 1) false last rec fields (e.0 ∷ e.1) (stamped_ok rec t (row_in (w + 1) false last rec fields) e h).0
