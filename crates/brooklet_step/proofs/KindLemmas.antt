-- How the parts of a change are searched for rows in common.
use Rattle.std.proofs.Common.{◌≡◌, ℕ, ℤ, ◌+◌, ◌<◌, ◌≤◌, Bool, true, false, Result, Ok, Err, List, [], ◌∷◌, length, get_or, take, Ordering}
use Rattle.std.proofs.Common.{refl, sym, ap, ◌∙◌, subst, arith, inl, inr, ⊎_elim}
use Rattle.std.specs.Prelude.{◌⊎◌, All, IsTrue, is_err}
use Rattle.std.specs.declared.cmp.Ordering.TheVariants.{Less, Equal, Greater}
use Rattle.std.specs.Ordering.{is_eq, ordering_reverse}
use Rattle.std.specs.List.Sorted.{IsSearchInRange, IsBinarySearchResult}
use Rattle.std.proofs.lemmas.Bool.{true≢false, cases_lt}
use Rattle.std.proofs.lemmas.List.Elements.{All-head, All-tail, All-cons, All-nil, All-get_or, All-more}
use Rattle.std.proofs.lemmas.List.{take_all}
use Rattle.std.proofs.lemmas.List.Sorted.{searchable_from_sorted}
use Rattle.river_base.specs.Row.{IsAscending, row_eq, row_cmp, row_ties, row_total, copies}
use Rattle.river_base.proofs.Counts.{row_itself, same_row, count-cons, count_pass, count_fail}

-- ROWS IN COMMON

-- where no row of the first list is in the second, they have none in common
pub apart_from_all : (xs ys : List (List ℤ)) → All (λ x. copies x ys ≡ 0) xs → (row : List ℤ) → (copies row xs ≡ 0) ⊎ (copies row ys ≡ 0)
apart_from_all [] ys h row = inl refl
apart_from_all (x ∷ xs) ys h row = step (row_eq row x) refl (apart_from_all xs ys (All-tail (λ z. copies z ys ≡ 0) x xs h) row) where
  step : (b : Bool) → row_eq row x ≡ b → (copies row xs ≡ 0) ⊎ (copies row ys ≡ 0) → (copies row (x ∷ xs) ≡ 0) ⊎ (copies row ys ≡ 0)
  step true e more = inr (subst (λ z. copies z ys ≡ 0) (sym (same_row row x e)) (All-head (λ z. copies z ys ≡ 0) x xs h))
  step false e more = ⊎_elim (λ z. inl (count_fail (row_eq row) x xs e ∙ z)) (λ z. inr z) more

-- and back
pub all_from_apart : (xs ys : List (List ℤ)) → ((row : List ℤ) → (copies row xs ≡ 0) ⊎ (copies row ys ≡ 0)) → All (λ x. copies x ys ≡ 0) xs
all_from_apart [] ys h = All-nil (λ x. copies x ys ≡ 0)
all_from_apart (x ∷ xs) ys h = All-cons (λ z. copies z ys ≡ 0) x xs first (all_from_apart xs ys rest) where
  first : copies x ys ≡ 0
  first = let p = count_pass (row_eq x) x xs (row_itself x) in ⊎_elim (λ z. absurd (omega (arith, p, z))) (λ z. z) (h x)

  rest : (row : List ℤ) → (copies row xs ≡ 0) ⊎ (copies row ys ≡ 0)
  rest row = let c = count-cons (row_eq row) x xs in ⊎_elim (λ z. inl (omega (arith, c, z))) (λ z. inr z) (h row)

-- the test of a row and another, by their order
alike_by : (x y : List ℤ) (o : Ordering) → row_cmp y x ≡ o → row_eq x y ≡ is_eq (ordering_reverse o)
alike_by x y o e = row_ties x y ∙ ap is_eq (row_total.antisymm x y ∙ ap ordering_reverse e)

none_alike : (x : List ℤ) (ys : List (List ℤ)) → All (λ y. row_eq x y ≡ false) ys → copies x ys ≡ 0
none_alike x [] h = refl
none_alike x (y ∷ ys) h =
    count_fail (row_eq x) y ys (All-head (λ z. row_eq x z ≡ false) y ys h) ∙ none_alike x ys (All-tail (λ z. row_eq x z ≡ false) y ys h)

all_unlike : (x : List ℤ) (ys : List (List ℤ)) → copies x ys ≡ 0 → All (λ y. row_eq x y ≡ false) ys
all_unlike x [] h = All-nil (λ y. row_eq x y ≡ false)
all_unlike x (y ∷ ys) h = step (row_eq x y) refl (all_unlike x ys) where
  step : (b : Bool) → row_eq x y ≡ b → (copies x ys ≡ 0 → All (λ z. row_eq x z ≡ false) ys) → All (λ z. row_eq x z ≡ false) (y ∷ ys)
  step true e more = absurd (let c = count_pass (row_eq x) y ys e in omega (arith, c, h))
  step false e more = All-cons (λ z. row_eq x z ≡ false) y ys e (more (sym (count_fail (row_eq x) y ys e) ∙ h))

-- a row is not there exactly where the search in the ascending list fails
pub missing_by : (x : List ℤ) (ys : List (List ℤ)) (r : Result ℕ ℕ) → IsAscending ys → IsSearchInRange r (length ys)
    → IsBinarySearchResult (λ y. row_cmp y x) ys r
    → (IsTrue (is_err r) → copies x ys ≡ 0) × (copies x ys ≡ 0 → IsTrue (is_err r))
missing_by x ys (Ok k) up low found = (
  (λ t. absurd (cc t)),
  (λ z.
      let no : row_eq x (get_or ys k []) ≡ false = All-get_or (λ y. row_eq x y ≡ false) ys k [] low (all_unlike x ys z) in
      let yes : row_eq x (get_or ys k []) ≡ true = alike_by x (get_or ys k []) Equal (found []) in
      absurd (true≢false (sym yes ∙ no))),
)
missing_by x ys (Err k) up low found = (
  (λ t.
      let p = found (searchable_from_sorted row_total (λ y. y) ys x up) in
      none_alike x ys (λ i d lt. ⊎_elim (λ a. alike_by x (get_or ys i d) Less (p.0 i d (omega arith) a))
      (λ a. alike_by x (get_or ys i d) Greater (p.1 i d a lt)) (cases_lt i k))),
  (λ z. refl),
)

-- what the test answers
pub missing_in : (x : List ℤ) (rows s : List (List ℤ)) (r : Result ℕ ℕ) (b : Bool) → s ≡ rows → b ≡ is_err r → IsAscending rows → IsSearchInRange r (length s)
    → IsBinarySearchResult (λ y. row_cmp y x) s r → (IsTrue b → copies x rows ≡ 0) × (copies x rows ≡ 0 → IsTrue b)
missing_in x rows s r b e f up low found =
    let all = missing_by x s r (subst IsAscending (sym e) up) low found in (
      (λ t. subst (λ l. copies x l ≡ 0) e (all.0 (sym f ∙ t))),
      (λ z. f ∙ all.1 (subst (λ l. copies x l ≡ 0) (sym e) z)),
    )

-- one row more is not there
pub none_more : (xs ys : List (List ℤ)) (i : ℕ) (x : List ℤ) → i < length xs → x ≡ get_or xs i x → All (λ z. copies z ys ≡ 0) (take i xs) → copies x ys ≡ 0
    → All (λ z. copies z ys ≡ 0) (take (i + 1) xs)
none_more xs ys i x lt is h z = All-more (λ u. copies u ys ≡ 0) xs i x lt h (subst (λ u. copies u ys ≡ 0) is z)

-- one row that is there stands against it
pub not_apart : (xs ys : List (List ℤ)) (i : ℕ) (x : List ℤ) (b : Bool) → i < length xs → x ≡ get_or xs i x → (copies x ys ≡ 0 → IsTrue b) → b ≡ false
    → ((row : List ℤ) → (copies row xs ≡ 0) ⊎ (copies row ys ≡ 0)) → ⊥
not_apart xs ys i x b lt is h fails apart =
    let z : copies x ys ≡ 0 = subst (λ u. copies u ys ≡ 0) (sym is) (All-get_or (λ u. copies u ys ≡ 0) xs i x lt (all_from_apart xs ys apart)) in
    true≢false (sym (h z) ∙ fails)

-- no row is there
pub apart_at_end : (xs ys : List (List ℤ)) (i : ℕ) → length xs ≤ i → All (λ z. copies z ys ≡ 0) (take i xs) → (row : List ℤ)
    → (copies row xs ≡ 0) ⊎ (copies row ys ≡ 0)
apart_at_end xs ys i le h = apart_from_all xs ys (subst (All (λ z. copies z ys ≡ 0)) (take_all i xs le) h)
