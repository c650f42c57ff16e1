-- The firings of a filter, one after another.
use Rattle.std.proofs.Common.{◌≡◌, ℕ, suc, ◌+◌, ◌-◌, ◌*◌, ◌^◌, ◌<◌, ◌≤◌, ℤ, List, [], ◌∷◌, ◌++◌, length, take, drop, map, max, get_or, sym, ap, ◌∙◌}
use Rattle.std.proofs.Common.{arith, append_assoc, append-nil}
use Rattle.std.proofs.lemmas.List.{drop_all, length-map}
use Rattle.river_base.proofs.Tests.{le_true, le_false, one_less}
use Rattle.river_base.proofs.Lists.{drop_next}
use Rattle.river_plan.specs.Forms.{Name}
use Rattle.brooklet_model.specs.Machine.{at_name}
use Rattle.streamit_model.specs.Meaning.{Store, pop_of, peek_of, with_fields, runs_in, start_at, waits_for, looked_at, fires, fires_from}
use Rattle.streamit_text.specs.Program.{FilterTree}

-- FIELDS

-- setting the fields that are left sets all
abbrev pub FieldsSoFar : List Name → List ℤ → ℕ → Store → Store → Type 0
FieldsSoFar fs zs i first now = with_fields (drop i fs) (drop i zs) now ≡ with_fields fs zs first

pub fields_next : (fs : List Name) (zs : List ℤ) (i : ℕ) (f : Name) (z : ℤ) (first now next : Store) → i < length fs → i < length zs → f ≡ get_or fs i f
    → z ≡ get_or zs i z → next ≡ at_name f z now → FieldsSoFar fs zs i first now → FieldsSoFar fs zs (i + 1) first next
fields_next fs zs i f z first now next lf lz ef ez e s =
    ap (with_fields (drop (i + 1) fs) (drop (i + 1) zs)) e
    ∙ ap (λ l. with_fields l (z ∷ drop (i + 1) zs) now) (sym (drop_next fs i f lf ef))
    ∙ ap (λ l. with_fields (drop i fs) l now) (sym (drop_next zs i z lz ez))
    ∙ s

pub fields_end : (fs : List Name) (zs : List ℤ) (i : ℕ) (first now : Store) → length fs ≤ i → FieldsSoFar fs zs i first now → now ≡ with_fields fs zs first
fields_end fs zs i first now le s = ap (λ l. with_fields l (drop i zs) now) (sym (drop_all i fs le)) ∙ s

-- FIRINGS

fires-there : (t : FilterTree) (n j : ℕ) (kept xs : List ℤ) → start_at t j + waits_for t j ≤ length xs
    → fires_from t (suc n) j kept xs ≡ (fires t j kept xs).pushed ++ fires_from t n (suc j) (map (fires t j kept xs).values t.fields) xs
fires-there t n j kept xs le = rw (le_true (start_at t j + waits_for t j) (length xs) le)

fires-none : (t : FilterTree) (n j : ℕ) (kept xs : List ℤ) → length xs < start_at t j + waits_for t j → fires_from t (suc n) j kept xs ≡ []
fires-none t n j kept xs lt = rw (le_false (start_at t j + waits_for t j) (length xs) lt)

-- the first firing, and all others
pub all_fired : (t : FilterTree) (xs before kept kept' out out' : List ℤ) → max (peek_of (runs_in t 0)) 1 ≤ length xs
    → kept' ≡ map (fires t 0 kept xs).values t.fields → out ≡ before ++ (fires t 0 kept xs).pushed → out' ≡ out ++ fires_from t (length xs) 1 kept' xs
    → out' ≡ before ++ fires_from t (suc (length xs)) 0 kept xs
all_fired t xs before kept kept' out out' le ek eo e =
    e
    ∙ ap (λ l. l ++ fires_from t (length xs) 1 kept' xs) eo
    ∙ append_assoc before (fires t 0 kept xs).pushed (fires_from t (length xs) 1 kept' xs)
    ∙ ap (λ k. before ++ ((fires t 0 kept xs).pushed ++ fires_from t (length xs) 1 k xs)) ek
    ∙ ap (λ l. before ++ l) (sym (fires-there t (length xs) 0 kept xs (omega (arith, le))))

-- no firing
pub none_fired : (t : FilterTree) (xs before kept : List ℤ) → length xs < max (peek_of (runs_in t 0)) 1
    → before ≡ before ++ fires_from t (suc (length xs)) 0 kept xs
none_fired t xs before kept lt = sym (append-nil before) ∙ ap (λ l. before ++ l) (sym (fires-none t (length xs) 0 kept xs (omega (arith, lt))))

-- what was pushed behind the first firing, and what the firings behind those push; the next starts there
pub record FiredSoFar (t : FilterTree) (xs before : List ℤ) (start j : ℕ) (first kept out : List ℤ) : Type 0 where
  pub place : start ≡ start_at t (suc j)
  pub low : start ≤ length xs + 2 ^ 32
  pub fields : length kept ≡ length t.fields
  pub same : out ++ fires_from t (length xs - j) (suc j) kept xs ≡ before ++ fires_from t (length xs) 1 first xs

-- the items that a firing looks at
pub looked_is : (t : FilterTree) (xs : List ℤ) (start j peek : ℕ) → start ≡ start_at t (suc j) → peek ≡ peek_of t.work
    → take (start + peek - start) (drop start xs) ≡ looked_at t (suc j) xs
looked_is t xs start j peek es ep =
    ap (λ k. take k (drop start xs)) (let e : start + peek - start ≡ peek_of t.work = omega (arith, ep) in e)
    ∙ ap (λ k. take (peek_of t.work) (drop k xs)) es

pub fired_start : (t : FilterTree) (xs before first : List ℤ) (start : ℕ) → start ≡ pop_of (runs_in t 0) → start < 2 ^ 32 → length first ≡ length t.fields
    → FiredSoFar t xs before start 0 first first before
fired_start t xs before first start is small e = record {
  place = omega (arith, is);
  low = omega (arith, small);
  fields = e;
  same = ap (λ n. before ++ fires_from t n 1 first xs) (let z : length xs - 0 ≡ length xs = omega arith in z);
}

-- one firing more
pub fired_next : (t : FilterTree) (xs before : List ℤ) (start j pop peek : ℕ) (first kept kept' out out' : List ℤ) → j < length xs → pop ≡ pop_of t.work
    → peek ≡ peek_of t.work → pop < 2 ^ 32 → start + peek ≤ length xs → FiredSoFar t xs before start j first kept out
    → kept' ≡ map (fires t (suc j) kept xs).values t.fields → out' ≡ out ++ (fires t (suc j) kept xs).pushed
    → FiredSoFar t xs before (start + pop) (j + 1) first kept' out'
fired_next t xs before start j pop peek first kept kept' out out' lt epop epeek small le f ek eo = record {
  place = let s = f.place in let m = more j (pop_of t.work) in omega (arith, s, epop, m);
  low = omega (arith, small, le);
  fields = ap length ek ∙ length-map t.fields (fires t (suc j) kept xs).values;
  same =
      let s = f.place in
      let there : start_at t (suc j) + waits_for t (suc j) ≤ length xs = omega (arith, s, epeek, le) in
      let n = length xs - (j + 1) in
      ap (λ i. out' ++ fires_from t n i kept' xs) (let s : suc (j + 1) ≡ suc (suc j) = omega arith in s)
      ∙ ap (λ l. l ++ fires_from t n (suc (suc j)) kept' xs) eo
      ∙ append_assoc out (fires t (suc j) kept xs).pushed (fires_from t n (suc (suc j)) kept' xs)
      ∙ ap (λ k. out ++ ((fires t (suc j) kept xs).pushed ++ fires_from t n (suc (suc j)) k xs)) ek
      ∙ ap (λ l. out ++ l) (sym (fires-there t n (suc j) kept xs there))
      ∙ ap (λ k. out ++ fires_from t k (suc j) kept xs) (sym (one_less (length xs) j lt))
      ∙ f.same;
} where
  more : (j p : ℕ) → (j + 1) * p ≡ j * p + p
  more j p = grind arith

-- no firing more
pub fired_stop : (t : FilterTree) (xs before : List ℤ) (start j peek : ℕ) (first kept out : List ℤ) → j < length xs → peek ≡ peek_of t.work
    → length xs < start + peek → FiredSoFar t xs before start j first kept out → out ≡ before ++ fires_from t (length xs) 1 first xs
fired_stop t xs before start j peek first kept out lt epeek high f =
    let s = f.place in
    sym (append-nil out)
    ∙ ap (λ l. out ++ l) (sym (fires-none t (length xs - (j + 1)) (suc j) kept xs (omega (arith, s, epeek, high))))
    ∙ ap (λ k. out ++ fires_from t k (suc j) kept xs) (sym (one_less (length xs) j lt))
    ∙ f.same

pub fired_end : (t : FilterTree) (xs before : List ℤ) (start j : ℕ) (first kept out : List ℤ) → length xs ≤ j
    → FiredSoFar t xs before start j first kept out → out ≡ before ++ fires_from t (length xs) 1 first xs
fired_end t xs before start j first kept out le f =
    sym (append-nil out) ∙ ap (λ k. out ++ fires_from t k (suc j) kept xs) (let z : 0 ≡ length xs - j = omega (arith, le) in z) ∙ f.same
