-- The fault that is told of a file is its fault.
use Rattle.std.proofs.Common.{◌≡◌, ◌⊎◌, inl, inr, ⊎_elim, ℕ, suc, ◌+◌, ◌<◌, List, [], ◌∷◌, ◌++◌, length, take, drop, Bool, true, false, cond, refl, sym, ◌∙◌}
use Rattle.std.proofs.Common.{ap, subst, arith, nat_lt}
use Rattle.std.specs.Prelude.{ℤ, Option, None, Some, Result, Ok, Err}
use Rattle.std.proofs.lemmas.Bool.Decides.{nat_tests}
use Rattle.csv_streams.specs.Number.{number_in}
use Rattle.csv_streams.specs.Numbered.{before_later, numbered_results}
use Rattle.csv_streams.specs.Records.{csv_records}
use Rattle.csv_streams.specs.Rows.{value_or, value_of_field, has_width, row_in, headers, most_rows, rows_of_file}
use Rattle.csv_streams.specs.Writing.{Writes}
use Rattle.csv_streams.specs.Faults.{HasFields, IsFirstUnread, HasFault, rank, IsFirstFault, IsFaultOf, FaultsAre}
use Rattle.csv_streams.specs.declared.fault.InFault.{InFault}
use Rattle.csv_streams.specs.declared.fault.InFault.TheVariants as fault
use Rattle.csv_streams.proofs.Numbered.{numbered-fault}
use Rattle.csv_streams.proofs.Writings.{read-is_written, written-is_read}
use Rattle.csv_streams.proofs.WrittenRows.{values_read, values_written, rows_read, rows_written}

-- THE FIRST ELEMENT WITH A FAULT

record FirstAt {A B F : Type 0} (g : ℕ → A → Result B F) (n : ℕ) (xs : List A) (f : F) : Type 0 where
  front : List A
  here : A
  others : List A
  given : List B
  parts : xs ≡ front ++ here ∷ others
  good : numbered_results g n front ≡ Ok given
  bad : g (n + length front) here ≡ Err f

same_fault : {B F : Type 0} (r : Result B F) (later : Result (List B) F) (h f : F) → r ≡ Err h → before_later r later ≡ Err f → h ≡ f
same_fault (Ok y) later h f p e = cc
same_fault (Err k) later h f p e = cc

abbrev given_all : {B F : Type 0} → List B → Result (List B) F
given_all ys = Ok ys

abbrev failed : {B F : Type 0} → F → Result (List B) F
failed f = Err f

first_at : {A B F : Type 0} (g : ℕ → A → Result B F) (n : ℕ) (xs : List A) (f : F) → numbered_results g n xs ≡ Err f → FirstAt g n xs f
first_at g n [] f e = cc
first_at {A} {B} {F} g n (x ∷ xs) f e = step (g n x) refl (numbered_results g (n + 1) xs) refl e (first_at g (n + 1) xs f) where
  clash : (ys : List B) → given_all {B = B} {F = F} ys ≡ failed f → ⊥
  clash ys h = cc h

  told : (h : F) → failed {B = B} {F = F} h ≡ failed f → h ≡ f
  told h k = cc

  step : (r : Result B F) → g n x ≡ r → (rs : Result (List B) F) → numbered_results g (n + 1) xs ≡ rs
      → before_later (g n x) (numbered_results g (n + 1) xs) ≡ Err f
      → (numbered_results g (n + 1) xs ≡ Err f → FirstAt g (n + 1) xs f) → FirstAt g n (x ∷ xs) f
  step (Err h) p rs q e more =
      let same : h ≡ f = same_fault (g n x) (numbered_results g (n + 1) xs) h f p e in
      let at : n + 0 ≡ n = omega arith in
      record { front = []; here = x; others = xs; given = []; parts = refl; good = refl; bad = ap (λ m. g m x) at ∙ p ∙ ap (λ k. Err k) same }
  step (Ok y) p (Ok ys) q e more = absurd (clash (y ∷ ys) (sym (λ i. before_later (p i) (q i)) ∙ e))
  step (Ok y) p (Err h) q e more =
      let later : numbered_results g (n + 1) xs ≡ Err f = q ∙ ap (λ k. Err k) (told h (sym (λ i. before_later (p i) (q i)) ∙ e)) in
      let m = more later in
      let at : n + suc (length m.front) ≡ n + 1 + length m.front = omega arith in
      record {
        front = x ∷ m.front;
        here = m.here;
        others = m.others;
        given = y ∷ m.given;
        parts = ap (λ l. x ∷ l) m.parts;
        good = (λ i. before_later (p i) (m.good i));
        bad = ap (λ k. g k m.here) at ∙ m.bad;
      }

-- FIELDS

value_none : (rec k : ℕ) (o : Option ℤ) (f : InFault) → value_or rec k o ≡ Err f → (o ≡ None) × (f ≡ fault.NotNumber rec k)
value_none rec k (Some x) f e = cc
value_none rec k None f e = (refl, cc)

field_fault : (rec : ℕ) (fields : List (List ℕ)) (f : InFault) → numbered_results (value_of_field rec) 1 fields ≡ Err f
    → (k : ℕ) × (f ≡ fault.NotNumber rec k) × IsFirstUnread k fields
field_fault rec fields f e =
    let m = first_at (value_of_field rec) 1 fields f e in
    let v = value_none rec (1 + length m.front) (number_in m.here) f m.bad in (
      1 + length m.front,
      v.1,
      record {
        read = m.front;
        field = m.here;
        others = m.others;
        values = m.given;
        parts = m.parts;
        number = omega arith;
        written = values_read rec 1 m.front m.given m.good;
        unread = λ z w. clash z (sym (written-is_read m.here z w) ∙ v.0);
      },
    )
  where
    clash : (z : ℤ) → Some z ≡ None → ⊥
    clash z h = cc h

unread_none : (field : List ℕ) (o : Option ℤ) → number_in field ≡ o → ((z : ℤ) → Writes field z → ⊥) → number_in field ≡ None
unread_none field None e h = e
unread_none field (Some z) e h = absurd (h z (read-is_written field z e))

-- the first field that writes no value is the one that is told
pub fault_field : (rec k : ℕ) (fields : List (List ℕ)) → IsFirstUnread k fields → numbered_results (value_of_field rec) 1 fields ≡ Err (fault.NotNumber rec k)
fault_field rec k fields h =
    ap (numbered_results (value_of_field rec) 1) h.parts
    ∙ numbered-fault (value_of_field rec) 1 k h.read h.field h.others h.values (fault.NotNumber rec k) (values_written rec 1 h.read h.values h.written)
    (omega (arith, h.number))
    (ap (value_or rec k) (unread_none h.field (number_in h.field) refl h.unread))

-- A RECORD

-- a record that is found to have a width has it
pub wide : (w : ℕ) (more : Bool) (n : ℕ) → has_width w more n ≡ true → HasFields w more n
wide w true n e = grind (arith, nat_tests, e)
wide w false n e = grind (arith, nat_tests, e)

not_wide : (w : ℕ) (more : Bool) (n : ℕ) → has_width w more n ≡ false → HasFields w more n → ⊥
not_wide w true n e h = grind (arith, nat_tests, e, h)
not_wide w false n e h = grind (arith, nat_tests, e, h)

module _ (w : ℕ) (more : Bool) (last rec : ℕ) (fields : List (List ℕ)) where
  abbrev Has : InFault → Type 0
  Has f = HasFault w more None last rec fields f

  -- a fault whose kind comes before that of a field
  up_to_width : (g : InFault) → rank g < 2 → Has g → (last < rec) ⊎ (HasFields w more (length fields) → ⊥)
  up_to_width fault.TooMany l h = inl h
  up_to_width (fault.Width r) l h = inr h.1
  up_to_width (fault.NotNumber r k) l h = absurd (omega arith)
  up_to_width (fault.NegativeTime r) l h = absurd (omega arith)
  up_to_width (fault.Backwards r) l h = absurd (omega arith)
  up_to_width fault.NoMemory l h = absurd (omega arith)

  up_to_many : (g : InFault) → rank g < 1 → Has g → last < rec
  up_to_many fault.TooMany l h = h
  up_to_many (fault.Width r) l h = absurd (omega arith)
  up_to_many (fault.NotNumber r k) l h = absurd (omega arith)
  up_to_many (fault.NegativeTime r) l h = absurd (omega arith)
  up_to_many (fault.Backwards r) l h = absurd (omega arith)
  up_to_many fault.NoMemory l h = absurd (omega arith)

  abbrev Is : InFault → Type 0
  Is f = IsFirstFault w more None last rec fields f

  abbrev read : Bool → Bool → Result (List ℤ) InFault
  read late fits = cond late (Err fault.TooMany) (cond fits (numbered_results (value_of_field rec) 1 (take w fields)) (Err (fault.Width rec)))

  one_fault : (g f : InFault) → failed {B = ℤ} {F = InFault} g ≡ failed f → g ≡ f
  one_fault g f e = cc

  -- what is told of a record is its first fault
  told : (late fits : Bool) → nat_lt last rec ≡ late → has_width w more (length fields) ≡ fits → (f : InFault) → read late fits ≡ Err f → Is f
  told true fits p q f e = subst Is (one_fault fault.TooMany f e) (record { has = grind (arith, nat_tests, p); first = λ g l h. absurd (omega (arith, l)) })
  told false false p q f e =
      subst Is (one_fault (fault.Width rec) f e) (record {
        has = (refl, not_wide w more (length fields) q);
        first = λ g l h. let late = up_to_many g l h in clash late;
      })
    where
      clash : last < rec → ⊥
      clash late = grind (arith, nat_tests, p, late)
  told false true p q f e =
      let (k, is, unread) = field_fault rec (take w fields) f e in
      subst Is (sym is) (record { has = (refl, unread); first = λ g l h. ⊎_elim clash (λ narrow. narrow (wide w more (length fields) q)) (up_to_width g l h) })
    where
      clash : last < rec → ⊥
      clash late = grind (arith, nat_tests, p, late)

  -- the fault that is told of a record is its first
  pub row_told : (f : InFault) → row_in w more last rec fields ≡ Err f → Is f
  row_told f e = told (nat_lt last rec) (has_width w more (length fields)) refl refl f e

  in_time : (Has fault.TooMany → ⊥) → nat_lt last rec ≡ false
  in_time h = step (nat_lt last rec) refl where
    step : (b : Bool) → nat_lt last rec ≡ b → nat_lt last rec ≡ false
    step true e = absurd (h (grind (arith, nat_tests, e)))
    step false e = e

  fits_in : ((HasFields w more (length fields) → ⊥) → ⊥) → has_width w more (length fields) ≡ true
  fits_in h = step (has_width w more (length fields)) refl where
    step : (b : Bool) → has_width w more (length fields) ≡ b → has_width w more (length fields) ≡ true
    step true e = e
    step false e = absurd (h (not_wide w more (length fields) e))

  narrow_in : (HasFields w more (length fields) → ⊥) → has_width w more (length fields) ≡ false
  narrow_in h = step (has_width w more (length fields)) refl where
    step : (b : Bool) → has_width w more (length fields) ≡ b → has_width w more (length fields) ≡ false
    step true e = absurd (h (wide w more (length fields) e))
    step false e = e

  late_in : last < rec → nat_lt last rec ≡ true
  late_in h = grind (arith, nat_tests, h)

  -- and the other way round
  pub fault_row : (f : InFault) → Is f → row_in w more last rec fields ≡ Err f
  fault_row fault.TooMany h = ap (λ b. read b (has_width w more (length fields))) (late_in h.has)
  fault_row (fault.Width r) h =
      ap (λ b. read b (has_width w more (length fields))) (in_time (h.first fault.TooMany (omega arith))) ∙ ap (read false) (narrow_in h.has.1)
      ∙ ap (λ n. Err (fault.Width n)) (sym h.has.0)
  fault_row (fault.NotNumber r k) h =
      ap (λ b. read b (has_width w more (length fields))) (in_time (h.first fault.TooMany (omega arith)))
      ∙ ap (read false) (fits_in (λ narrow. h.first (fault.Width rec) (omega arith) (refl, narrow)))
      ∙ fault_field rec k (take w fields) h.has.1 ∙ ap (λ n. Err (fault.NotNumber n k)) (sym h.has.0)
  fault_row (fault.NegativeTime r) h = absurd h.has.1
  fault_row (fault.Backwards r) h = absurd h.has.1
  fault_row fault.NoMemory h = absurd h.has

-- A FILE

fault_told : (bytes : List ℕ) (w : ℕ) (skip more : Bool) (f : InFault) → rows_of_file bytes w skip more ≡ Err f → IsFaultOf bytes w skip more f
fault_told bytes w skip more f e =
    let last = headers skip + most_rows in
    let m = first_at (row_in w more last) (headers skip + 1) (drop (headers skip) (csv_records bytes)) f e in
    let r = rows_read w more last (headers skip + 1) m.front m.given m.good in
    record {
      read = m.front;
      fields = m.here;
      others = m.others;
      rows = m.given;
      parts = m.parts;
      written = r.0;
      few = let few = r.1 in omega (arith, few);
      faulty = row_told w more last (headers skip + 1 + length m.front) m.here f m.bad;
    }

told_fault : (bytes : List ℕ) (w : ℕ) (skip more : Bool) (f : InFault) → IsFaultOf bytes w skip more f → rows_of_file bytes w skip more ≡ Err f
told_fault bytes w skip more f h =
    let last = headers skip + most_rows in
    let few = h.few in
    ap (numbered_results (row_in w more last) (headers skip + 1)) h.parts
    ∙ numbered-fault (row_in w more last) (headers skip + 1) (headers skip + 1 + length h.read) h.read h.fields h.others h.rows f
    (rows_written w more last (headers skip + 1) h.read h.rows h.written (omega (arith, few))) refl
    (fault_row w more last (headers skip + 1 + length h.read) h.fields f h.faulty)

-- the law: a fault is told exactly where it is the fault of the file
pub faults_are : FaultsAre
faults_are bytes w skip more f = (fault_told bytes w skip more f, told_fault bytes w skip more f)
