-- Rows in order of their instants.
use Rattle.std.proofs.Common.{◌≡◌, ◌<ℤ◌, ◌≤ℤ◌, ◌<◌, ◌-◌, ℕ, zero, suc, ℤ, Bool, true, false, cond, List, [], ◌∷◌, ◌++◌, length, get_or, filter, take}
use Rattle.std.proofs.Common.{drop, refl, sym, ap, ◌∙◌, arith, subst, append_assoc}
use Rattle.std.specs.Prelude.{int_lt, int_le}
use Rattle.std.specs.List.{AllByRecursion}
use Rattle.std.proofs.lemmas.Int.{ints}
use Rattle.std.proofs.lemmas.List.{take-append-drop, append-nil}
use Rattle.std.proofs.lemmas.List.Elements.{filter-append}
use Rattle.river_base.proofs.Tests.{int_lt_true, int_lt_false, int_le_true}
use Rattle.kern_bags.specs.Kept.{Stamped, stamped, AreInTurn, inserted, since}
use Rattle.kern_changes.proofs.Merged.{all_as}

-- TESTS ON INSTANTS

-- the test for at most, where it is not
pub le_false : (a b : ℤ) → b <ℤ a → int_le a b ≡ false
le_false a b h = grind (arith, h)

-- LISTS

module _ {K : Type 0} where
  -- a test that holds of all elements
  pub filter_all : (p : K → Bool) (xs : List K) → AllByRecursion (λ x. p x ≡ true) xs → filter p xs ≡ xs
  filter_all p [] h = refl
  filter_all p (x ∷ xs) h = ap (λ b. cond b (x ∷ filter p xs) (filter p xs)) h.0 ∙ ap (λ l. x ∷ l) (filter_all p xs h.1)

  -- a test that holds of none
  pub filter_none : (p : K → Bool) (xs : List K) → AllByRecursion (λ x. p x ≡ false) xs → filter p xs ≡ []
  filter_none p [] h = refl
  filter_none p (x ∷ xs) h = ap (λ b. cond b (x ∷ filter p xs) (filter p xs)) h.0 ∙ filter_none p xs h.1

  -- what holds of the elements of two lists
  pub all_join : (P : K → Type 0) (xs ys : List K) → AllByRecursion P xs → AllByRecursion P ys → AllByRecursion P (xs ++ ys)
  all_join P [] ys h g = g
  all_join P (x ∷ xs) ys h g = (h.0, all_join P xs ys h.1 g)

  -- what holds of all holds of those that pass
  pub all_filter : (P : K → Type 0) (p : K → Bool) (xs : List K) → AllByRecursion P xs → AllByRecursion P (filter p xs)
  all_filter P p [] h = tt
  all_filter P p (x ∷ xs) h = step (p x) (all_filter P p xs h.1) where
    step : (b : Bool) → AllByRecursion P (filter p xs) → AllByRecursion P (cond b (x ∷ filter p xs) (filter p xs))
    step true more = (h.0, more)
    step false more = more

  -- what holds of all holds behind a place
  pub all_from : (P : K → Type 0) (n : ℕ) (xs : List K) → AllByRecursion P xs → AllByRecursion P (drop n xs)
  all_from P zero xs h = h
  all_from P (suc n) [] h = tt
  all_from P (suc n) (x ∷ xs) h = all_from P n xs h.1

  -- the element before a place is the first of what is dropped one place earlier
  pub one_earlier : (P : K → Type 0) (xs : List K) (n : ℕ) (x : K) → n < length xs → x ≡ get_or xs n x → P x → AllByRecursion P (drop (suc n) xs)
      → AllByRecursion P (drop n xs)
  one_earlier P [] n x lt e p h = absurd (omega (arith, lt))
  one_earlier P (y ∷ ys) zero x lt e p h = (subst P e p, h)
  one_earlier P (y ∷ ys) (suc n) x lt e p h = one_earlier P ys n x (omega (arith, lt)) e p h

-- WHERE AN INSTANT STANDS

-- all up to an element that is not later than an instant are not
pub earlier_all : (at : ℤ) (es : List Stamped) (n : ℕ) (e : Stamped) → AreInTurn es → n < length es → e ≡ get_or es n e → e.0 ≤ℤ at
    → AllByRecursion (λ (f : Stamped). f.0 ≤ℤ at) (take (suc n) es)
earlier_all at [] n e t lt is le = absurd (omega (arith, lt))
earlier_all at (x ∷ xs) zero e t lt is le = (subst (λ (y : Stamped). y.0 ≤ℤ at) is le, tt)
earlier_all at (x ∷ xs) (suc n) e t lt is le = (before xs n t.0 (omega (arith, lt)) is, earlier_all at xs n e t.1 (omega (arith, lt)) is le) where
  before : (ys : List Stamped) (m : ℕ) → AllByRecursion (λ (f : Stamped). x.0 ≤ℤ f.0) ys → m < length ys → e ≡ get_or ys m e → x.0 ≤ℤ at
  before [] m a l i = absurd (omega (arith, l))
  before (y ∷ ys) zero a l i = let h = a.0 in let g = subst (λ (z : Stamped). z.0 ≤ℤ at) i le in omega (arith, ints, h, g)
  before (y ∷ ys) (suc m) a l i = before ys m a.1 (omega (arith, l)) i

-- the parts before and behind that place are told by tests
pub parts_before : (at : ℤ) (n : ℕ) (es : List Stamped) → AllByRecursion (λ (e : Stamped). e.0 ≤ℤ at) (take n es)
    → AllByRecursion (λ (e : Stamped). at <ℤ e.0) (drop n es) → filter (λ (e : Stamped). int_le e.0 at) es ≡ take n es
parts_before at n es h g =
    ap (filter (λ (e : Stamped). int_le e.0 at)) (sym (take-append-drop n es))
    ∙ filter-append (λ (e : Stamped). int_le e.0 at) (take n es) (drop n es)
    ∙ ap (λ l. l ++ filter (λ (e : Stamped). int_le e.0 at) (drop n es))
    (filter_all (λ (e : Stamped). int_le e.0 at) (take n es)
    (all_as (λ (e : Stamped). e.0 ≤ℤ at) (λ (e : Stamped). int_le e.0 at ≡ true) (take n es) (λ e k. int_le_true e.0 at k) h))
    ∙ ap (λ l. take n es ++ l)
    (filter_none (λ (e : Stamped). int_le e.0 at) (drop n es)
    (all_as (λ (e : Stamped). at <ℤ e.0) (λ (e : Stamped). int_le e.0 at ≡ false) (drop n es) (λ e k. le_false e.0 at k) g))
    ∙ append-nil (take n es)

pub parts_behind : (at : ℤ) (n : ℕ) (es : List Stamped) → AllByRecursion (λ (e : Stamped). e.0 ≤ℤ at) (take n es)
    → AllByRecursion (λ (e : Stamped). at <ℤ e.0) (drop n es) → filter (λ (e : Stamped). int_lt at e.0) es ≡ drop n es
parts_behind at n es h g =
    ap (filter (λ (e : Stamped). int_lt at e.0)) (sym (take-append-drop n es))
    ∙ filter-append (λ (e : Stamped). int_lt at e.0) (take n es) (drop n es)
    ∙ ap (λ l. l ++ filter (λ (e : Stamped). int_lt at e.0) (drop n es))
    (filter_none (λ (e : Stamped). int_lt at e.0) (take n es)
    (all_as (λ (e : Stamped). e.0 ≤ℤ at) (λ (e : Stamped). int_lt at e.0 ≡ false) (take n es) (λ e k. int_lt_false at e.0 k) h))
    ∙ filter_all (λ (e : Stamped). int_lt at e.0) (drop n es)
    (all_as (λ (e : Stamped). at <ℤ e.0) (λ (e : Stamped). int_lt at e.0 ≡ true) (drop n es) (λ e k. int_lt_true at e.0 k) g)

-- so what is put between them is inserted
pub inserted_by : (at : ℤ) (rows : List (List ℤ)) (n : ℕ) (es before : List Stamped) → AllByRecursion (λ (e : Stamped). e.0 ≤ℤ at) (take n es)
    → AllByRecursion (λ (e : Stamped). at <ℤ e.0) (drop n es) → before ≡ take n es ++ stamped at rows → before ++ drop n es ≡ inserted at rows es
inserted_by at rows n es before h g e =
    ap (λ l. l ++ drop n es) e
    ∙ append_assoc (take n es) (stamped at rows) (drop n es)
    ∙ (λ i. sym (parts_before at n es h g) i ++ (stamped at rows ++ sym (parts_behind at n es h g) i))

-- LEAVING

-- one that is before an instant leaves
pub since_next : (low : ℤ) (es : List Stamped) (e : Stamped) → 0 < length es → e ≡ get_or es 0 e → e.0 <ℤ low → since low (drop 1 es) ≡ since low es
since_next low [] e lt is l = absurd (omega (arith, lt))
since_next low (x ∷ xs) e lt is l = sym (ap (λ b. cond b (x ∷ since low xs) (since low xs)) (le_false low x.0 (subst (λ (y : Stamped). y.0 <ℤ low) is l)))

-- where the first is not, none is
pub since_all : (low : ℤ) (es : List Stamped) (e : Stamped) → AreInTurn es → e ≡ get_or es 0 e → low ≤ℤ e.0 → since low es ≡ es
since_all low [] e t is l = refl
since_all low (x ∷ xs) e t is l =
    let first = subst (λ (y : Stamped). low ≤ℤ y.0) is l in
    filter_all (λ (f : Stamped). int_le low f.0) (x ∷ xs) (
      int_le_true low x.0 first,
      all_as (λ (f : Stamped). x.0 ≤ℤ f.0) (λ (f : Stamped). int_le low f.0 ≡ true) xs (λ f k. int_le_true low f.0 (omega (arith, ints, first, k))) t.0,
    )

-- rows in order of instants without the first
pub rest_in_turn : (es : List Stamped) → AreInTurn es → AreInTurn (drop 1 es)
rest_in_turn [] t = tt
rest_in_turn (x ∷ xs) t = t.1

-- one more than may stay leaves
pub last_next : {K : Type 0} (n : ℕ) (xs : List K) → n < length xs → drop (length (drop 1 xs) - n) (drop 1 xs) ≡ drop (length xs - n) xs
last_next n [] lt = absurd (omega (arith, lt))
last_next n (x ∷ xs) lt = ap (λ k. drop k (x ∷ xs)) (let e : suc (length xs - n) ≡ suc (length xs) - n = omega (arith, lt) in e)
