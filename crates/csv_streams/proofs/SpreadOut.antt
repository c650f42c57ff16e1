-- Rows that are spread over instants are neither lost nor doubled.
use Rattle.std.proofs.Common.{◌≡◌, ℕ, zero, suc, ◌<◌, ◌≤ℤ◌, ◌<ℤ◌, ℤ, pos, List, [], ◌∷◌, ◌++◌, length, get_or, drop, map, Bool, true, false, cond, refl, sym}
use Rattle.std.proofs.Common.{ap, ◌∙◌, subst, arith}
use Rattle.std.specs.Prelude.{filter}
use Rattle.std.specs.List.{Contains, AllByRecursion}
use Rattle.std.specs.List.Sorted.{IsStrictlySortedBy}
use Rattle.std.specs.Ordering.{int_eq, int_cmp}
use Rattle.std.specs.declared.cmp.Ordering.TheVariants.{Less}
use Rattle.std.proofs.lemmas.Bool.{true≢false}
use Rattle.std.proofs.lemmas.Map.Made.{Contains-tail}
use Rattle.std.specs.Int.Signed.{<ℤ-≤ℤ_trans}
use Rattle.river_base.proofs.Tests.{int_eq_by, cmp_less}
use Rattle.river_base.specs.Held.{batches}
use Rattle.river_base.specs.Instants.{at_instant, spread}
use Rattle.csv_streams.specs.Records.{csv_records}
use Rattle.csv_streams.specs.Rows.{headers}
use Rattle.csv_streams.specs.SpreadOut.{rows_behind, EachInstantHasABatch, NoRowIsLost}
use Rattle.csv_streams.specs.Timed.{Entry}
use Rattle.csv_streams.specs.TimedWritten.{WriteTimed}
use Rattle.csv_streams.proofs.TimedWritten.{timed_are_written}

-- the law: there is a batch at each instant
pub each_has_a_batch : EachInstantHasABatch
each_has_a_batch [] file = refl
each_has_a_batch (t ∷ ts) file = ap (λ l. t ∷ l) (each_has_a_batch ts file)

each : {A : Type 0} (P Q : A → Type 0) → ((a : A) → P a → Q a) → (xs : List A) → AllByRecursion P xs → AllByRecursion Q xs
each P Q f [] h = tt
each P Q f (x ∷ xs) h = (f x h.0, each P Q f xs h.1)

member : (P : ℤ → Type 0) (us : List ℤ) (x : ℤ) → AllByRecursion P us → (k : ℕ) → k < length us → get_or us k x ≡ x → P x
member P [] x h k lt e = absurd (omega (arith, lt))
member P (u ∷ us) x h zero lt e = subst P e h.0
member P (u ∷ us) x h (suc k) lt e = member P us x h.1 k (omega (arith, lt)) e

differs : (t u : ℤ) → t <ℤ u → int_eq t u ≡ false
differs t u h = grind (arith, h)

differs_back : (t u : ℤ) → t <ℤ u → int_eq u t ≡ false
differs_back t u h = grind (arith, h)

same_back : (t u : ℤ) → t ≡ u → int_eq u t ≡ true
same_back t u h = grind (arith, h)

further : (t u v : ℤ) → t ≤ℤ u → u ≤ℤ v → t ≤ℤ v
further t u v h g = grind (arith, h, g)

-- the rows of the batches of a file
abbrev given : List ℤ → List Entry → List Entry
given ts file = rows_behind (batches (spread ts (at_instant file)))

abbrev behind : ℤ → List (List ℤ) → List Entry
behind t rows = map (λ row. (t, row)) rows

rows_if : Entry → List Entry → ℤ → Bool → List (List ℤ)
rows_if e es t b = map (λ (d : Entry). d.1) (cond b (e ∷ filter (λ d. int_eq d.0 t) es) (filter (λ d. int_eq d.0 t) es))

passed : (e : Entry) (es : List Entry) (t : ℤ) → int_eq e.0 t ≡ false → at_instant (e ∷ es) t ≡ at_instant es t
unfolding rows_if
passed e es t h = ap (rows_if e es t) h

found : (e : Entry) (es : List Entry) (t : ℤ) → int_eq e.0 t ≡ true → at_instant (e ∷ es) t ≡ e.1 ∷ at_instant es t
unfolding rows_if
found e es t h = ap (rows_if e es t) h

none_at : (t : ℤ) (es : List Entry) → AllByRecursion (λ d. int_eq d.0 t ≡ false) es → at_instant es t ≡ []
none_at t [] h = refl
none_at t (e ∷ es) h = passed e es t h.0 ∙ none_at t es h.1

-- a row of another instant
skipped : (us : List ℤ) (e : Entry) (es : List Entry) → AllByRecursion (λ u. int_eq e.0 u ≡ false) us → given us (e ∷ es) ≡ given us es
skipped [] e es h = refl
skipped (u ∷ us) e es h = ap (λ l. behind u l ++ given us (e ∷ es)) (passed e es u h.0) ∙ ap (λ l. behind u (at_instant es u) ++ l) (skipped us e es h.1)

-- the first row comes first
first_in : (ts : List ℤ) (e : Entry) (es : List Entry) → IsStrictlySortedBy int_cmp ts → Contains ts e.0 → AllByRecursion (λ d. e.0 ≤ℤ d.0) es
    → given ts (e ∷ es) ≡ e ∷ given ts es
unfolding IsStrictlySortedBy
first_in [] e es up in_ts low = absurd (let lt = in_ts.1 in omega (arith, lt))
first_in (t ∷ us) e es up in_ts low = step (int_eq e.0 t) refl (first_in us e es up.1) where
  here : int_eq e.0 t ≡ true → given (t ∷ us) (e ∷ es) ≡ e ∷ given (t ∷ us) es
  here h =
      let is : t ≡ e.0 = sym (int_eq_by e.0 t h) in
      let other = each (λ u. int_cmp t u ≡ Less) (λ u. int_eq e.0 u ≡ false) (λ u l. differs e.0 u (subst (λ x. x <ℤ u) is (cmp_less t u l))) us up.0 in
      let first : (t, e.1) ≡ e = λ i. (is i, e.1) in
      ap (λ l. behind t l ++ given us (e ∷ es)) (found e es t h)
      ∙ ap (λ l. (t, e.1) ∷ (behind t (at_instant es t) ++ l)) (skipped us e es other)
      ∙ ap (λ x. x ∷ (behind t (at_instant es t) ++ given us es)) first

  later : int_eq e.0 t ≡ false → (Contains us e.0 → AllByRecursion (λ d. e.0 ≤ℤ d.0) es → given us (e ∷ es) ≡ e ∷ given us es)
      → given (t ∷ us) (e ∷ es) ≡ e ∷ given (t ∷ us) es
  later h more =
      let there = Contains-tail t us e.0 (λ q. true≢false (sym (same_back t e.0 q) ∙ h)) in_ts in
      let lt : t <ℤ e.0 = member (λ u. t <ℤ u) us e.0 (each (λ u. int_cmp t u ≡ Less) (λ u. t <ℤ u) (cmp_less t) us up.0) there.0 there.1 there.2 in
      let none = none_at t es
      (each (λ (d : Entry). e.0 ≤ℤ d.0) (λ (d : Entry). int_eq d.0 t ≡ false) (λ d l. differs_back t d.0 (<ℤ-≤ℤ_trans lt l)) es low) in
      ap (λ l. behind t l ++ given us (e ∷ es)) (passed e es t h ∙ none)
      ∙ more there low
      ∙ ap (λ l. e ∷ (behind t l ++ given us es)) (sym none)

  step : (b : Bool) → int_eq e.0 t ≡ b → (Contains us e.0 → AllByRecursion (λ d. e.0 ≤ℤ d.0) es → given us (e ∷ es) ≡ e ∷ given us es)
      → given (t ∷ us) (e ∷ es) ≡ e ∷ given (t ∷ us) es
  step true h more = here h
  step false h more = later h more

nothing_given : (ts : List ℤ) → given ts [] ≡ []
nothing_given [] = refl
nothing_given (t ∷ ts) = nothing_given ts

all_from : (w : ℕ) (t : ℤ) (recs : List (List (List ℕ))) (es : List Entry) → WriteTimed w t recs es → AllByRecursion (λ d. t ≤ℤ d.0) es
all_from w t [] [] all = tt
all_from w t [] (e ∷ es) all = absurd all
all_from w t (fields ∷ recs) [] all = absurd all
all_from w t (fields ∷ recs) (e ∷ es) all =
    (all.0.in_turn, each (λ (d : Entry). e.0 ≤ℤ d.0) (λ (d : Entry). t ≤ℤ d.0) (λ d l. further t e.0 d.0 all.0.in_turn l) es (all_from w e.0 recs es all.1))

none_lost : (w : ℕ) (t : ℤ) (recs : List (List (List ℕ))) (es : List Entry) (ts : List ℤ) → WriteTimed w t recs es → IsStrictlySortedBy int_cmp ts
    → ((x : ℤ) → Contains (map (λ (e : Entry). e.0) es) x → Contains ts x) → given ts es ≡ es
none_lost w t [] [] ts all up has = nothing_given ts
none_lost w t [] (e ∷ es) ts all up has = absurd all
none_lost w t (fields ∷ recs) [] ts all up has = absurd all
none_lost w t (fields ∷ recs) (e ∷ es) ts all up has =
    first_in ts e es up (has e.0 (0, omega arith, refl)) (all_from w e.0 recs es all.1)
    ∙ ap (λ l. e ∷ l) (none_lost w e.0 recs es ts all.1 up (λ x h. let lt = h.1 in has x (suc h.0, omega (arith, lt), h.2)))

-- the law: no row is lost, and none is added
pub no_row_is_lost : NoRowIsLost
no_row_is_lost bytes w skip file ts read up has =
    none_lost w (pos 0) (drop (headers skip) (csv_records bytes)) file ts ((timed_are_written bytes w skip file).0 read).written up has
