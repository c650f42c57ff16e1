-- Which firings of a filter there are, and which items they look at.
use Rattle.std.proofs.Common.{◌≡◌, ℕ, zero, suc, ℤ, ◌+◌, ◌<◌, ◌≤◌, List, [], ◌∷◌, ◌++◌, length, take, drop, refl, sym, ap, ◌∙◌, subst, arith}
use Rattle.std.proofs.Common.{append_assoc, ⊎_elim}
use Rattle.std.specs.Prelude.{slice_get}
use Rattle.std.proofs.lemmas.List.{append-nil}
use Rattle.std.proofs.lemmas.Bool.{cases_lt}
use Rattle.std.proofs.Math.Nat.{mul-le-mul_right, le-mul_of_pos_right}
use Rattle.river_base.proofs.PlaceLemmas.{if_le, if_gt}
use Rattle.streamit_text.specs.Program.{FilterTree}
use Rattle.streamit_model.specs.Meaning.{pop_of, peek_of, runs_in, start_at, waits_for, looked_at, fires, fires_from}
use Rattle.streamit_model.specs.Firings.{TakesPlace, place_looked_at, fields_before, first_pushes, IsFired}
use Rattle.streamit_model.specs.Laws.{FiringsAre}
use Rattle.streamit_model.proofs.FilterMet.{elaborated_parts}

-- THE ITEMS THAT A FIRING LOOKS AT

get_taken : (n i : ℕ) (xs : List ℤ) → i < n → slice_get (take n xs) i ≡ slice_get xs i
get_taken zero i xs lt = absurd (omega (arith, lt))
get_taken (suc n) i [] lt = refl
get_taken (suc n) zero (x ∷ xs) lt = refl
get_taken (suc n) (suc i) (x ∷ xs) lt = get_taken n i xs (omega (arith, lt))

get_dropped : (k i : ℕ) (xs : List ℤ) → slice_get (drop k xs) i ≡ slice_get xs (k + i)
get_dropped zero i xs = ap (slice_get xs) (let e : i ≡ 0 + i = omega arith in e)
get_dropped (suc k) i [] = refl
get_dropped (suc k) i (x ∷ xs) = get_dropped k i xs ∙ ap (slice_get (x ∷ xs)) (let e : suc (k + i) ≡ suc k + i = omega arith in e)

module _ (t : FilterTree) (xs : List ℤ) where
  looks : (j i : ℕ) → i < peek_of (runs_in t j) → slice_get (looked_at t j xs) i ≡ slice_get xs (place_looked_at t j i)
  looks zero i lt = get_taken (peek_of (runs_in t 0)) i xs lt
  looks (suc j) i lt =
      get_taken (peek_of t.work) i (drop (start_at t (suc j)) xs) lt
      ∙ get_dropped (start_at t (suc j)) i xs

  -- WHICH FIRINGS THERE ARE

  abbrev Fits : ℕ → Type 0
  Fits j = start_at t j + waits_for t j ≤ length xs

  -- firing j and those after it, till one has too few items
  record Ranged (n j : ℕ) : Type 0 where
    last : ℕ
    from : j ≤ last
    fit : (i : ℕ) → j ≤ i → i < last → Fits i
    ends : length xs < start_at t last + waits_for t last
    is : first_pushes t xs j ++ fires_from t n j (fields_before t xs j) xs ≡ first_pushes t xs last

  stops : (n j : ℕ) → length xs < start_at t j + waits_for t j → fires_from t n j (fields_before t xs j) xs ≡ [] → Ranged n j
  stops n j few none = record {
    last = j;
    from = omega arith;
    fit = λ i a b. absurd (omega (arith, a, b));
    ends = few;
    is = ap (λ l. first_pushes t xs j ++ l) none ∙ append-nil (first_pushes t xs j);
  }

  goes_on : (n j : ℕ) → Fits j → Ranged n (suc j) → Ranged (suc n) j
  goes_on n j enough r = record {
    last = r.last;
    from = let a = r.from in omega (arith, a);
    fit = λ i a b. ⊎_elim (λ lt. r.fit i (omega (arith, lt)) b) (λ le. at_least i a le) (cases_lt j i);
    ends = r.ends;
    is =
        ap (λ l. first_pushes t xs j ++ l) (if_le (start_at t j + waits_for t j) (length xs) _ _ enough)
        ∙ sym (append_assoc (first_pushes t xs j) (fires t j (fields_before t xs j) xs).pushed (fires_from t n (suc j) (fields_before t xs (suc j)) xs))
        ∙ r.is;
  }
    where
      at_least : (i : ℕ) → j ≤ i → i ≤ j → Fits i
      at_least i a b = subst Fits (let e : j ≡ i = omega (arith, a, b) in e) enough

  module _ (pops : 1 ≤ pop_of t.work) (peeks : pop_of t.work ≤ peek_of t.work) where
    -- each firing but the first needs an item that none before it has popped
    number_within : (j : ℕ) → j ≤ start_at t j + waits_for t j
    number_within zero = omega arith
    number_within (suc j) = let m = le-mul_of_pos_right j pops in omega (arith, m, pops, peeks)

    ranged : (n j : ℕ) → length xs < n + j → Ranged n j
    ranged zero j fuel = stops zero j (let b = number_within j in omega (arith, b, fuel)) refl
    ranged (suc n) j fuel = ⊎_elim
        (λ few. stops (suc n) j few (if_gt (start_at t j + waits_for t j) (length xs) _ _ few))
        (λ enough. goes_on n j enough (ranged n (suc j) (omega (arith, fuel))))
        (cases_lt (length xs) (start_at t j + waits_for t j))

    -- a firing behind one that has too few items has too few
    fits_before : (k j : ℕ) → k ≤ j → Fits (suc j) → Fits (suc k)
    fits_before k j le h = let m = mul-le-mul_right (pop_of t.work) le in omega (arith, m, h)

    takes_fits : (j : ℕ) → TakesPlace t (length xs) j → Fits j
    takes_fits zero h = omega (arith, h)
    takes_fits (suc j) h = h.1

    takes_first : (j : ℕ) → TakesPlace t (length xs) j → Fits 0
    takes_first zero h = omega (arith, h)
    takes_first (suc j) h = let a = h.0 in omega (arith, a)

    fits_takes : (j : ℕ) → Fits 0 → Fits j → TakesPlace t (length xs) j
    fits_takes zero a h = omega (arith, h)
    fits_takes (suc j) a h = (omega (arith, a), h)

    -- none is behind the last
    none_behind : (last j : ℕ) → length xs < start_at t last + waits_for t last → TakesPlace t (length xs) j → last ≤ j → ⊥
    none_behind zero j ends h le = let a = takes_first j h in omega (arith, a, ends)
    none_behind (suc k) zero ends h le = omega (arith, le)
    none_behind (suc k) (suc j) ends h le = let a = fits_before k j (omega (arith, le)) h.1 in omega (arith, a, ends)

    fired : (m : ℕ) × IsFired t xs m
    fired =
        let r = ranged (suc (length xs)) 0 (omega arith) in (
          r.last,
          record {
            which = λ j. (
              (λ lt. fits_takes j (r.fit 0 (omega arith) (omega (arith, lt))) (r.fit j (omega arith) lt)),
              (λ h. ⊎_elim (λ lt. lt) (λ le. absurd (none_behind r.last j r.ends h le)) (cases_lt j r.last)),
            );
            looks = looks;
            pushes = r.is;
          },
        )

-- the law
pub firings_are : FiringsAre
firings_are t f xs h =
    let e = elaborated_parts t f h in
    let r = e.work_is.rates in
    fired t xs r.pops r.peeks
