-- The rows of one timestamp, in a list that is in order of its timestamps.
use Rattle.std.proofs.Common.{◌≡◌, ℕ, zero, suc, ◌-◌, ◌<◌, ◌≤◌, ℤ, List, [], ◌∷◌, length, get_or, take, drop, map, Bool, true, false, cond, refl, sym, ap, ◌∙◌}
use Rattle.std.proofs.Common.{subst, arith, int_lt, int_le}
use Rattle.std.specs.Prelude.{nat_lt, not, ◌&&◌}
use Rattle.std.specs.List.{filter}
use Rattle.std.specs.List.Sorted.{IsSortedByKey, IsStableByKey, IsPartitionedBy, IsPartitionPoint, ties}
use Rattle.std.specs.Ordering.{int_eq, int_cmp, is_lt}
use Rattle.std.specs.Cmp.{IsStrictWeakOrder}
use Rattle.std.proofs.lemmas.Bool.Decides.{nat_tests}
use Rattle.std.proofs.lemmas.Cmp.{int_cmp_total}
use Rattle.std.proofs.lemmas.List.{get_or_read}
use Rattle.std.proofs.lemmas.List.Elements.{filter_agree}
use Rattle.std.proofs.lemmas.List.Sorted.{ranks_by, sorted_far}
use Rattle.river_base.specs.Instants.{at_instant}
use Rattle.csv_streams.specs.SpreadOut.{IsFirstItem, IsEnd}
use Rattle.csv_streams.specs.Timed.{Entry}

-- the timestamp of an entry
abbrev pub stamp : Entry → ℤ
stamp e = e.0

-- what passes is a part of the list
module _ {X : Type 0} (p : X → Bool) where
  past : (x : X) (xs : List X) → p x ≡ false → filter p (x ∷ xs) ≡ filter p xs
  past x xs h = ap (λ b. cond b (x ∷ filter p xs) (filter p xs)) h

  here : (x : X) (xs : List X) → p x ≡ true → filter p (x ∷ xs) ≡ x ∷ filter p xs
  here x xs h = ap (λ b. cond b (x ∷ filter p xs) (filter p xs)) h

  -- p has this value at the places from n to m
  abbrev pub Is : Bool → List X → ℕ → ℕ → Type 0
  Is b xs n m = (k : ℕ) (d : X) → n ≤ k → k < m → p (get_or xs k d) ≡ b

  first : (b : Bool) (x : X) (xs : List X) (m : ℕ) → 0 < m → Is b (x ∷ xs) 0 m → p x ≡ b
  first b x xs m h is = is 0 x (omega arith) h

  later : (b : Bool) (x : X) (xs : List X) (n m : ℕ) → Is b (x ∷ xs) (suc n) (suc m) → Is b xs n m
  later b x xs n m is k d low high = is (suc k) d (omega (arith, low)) (omega (arith, high))

  from_nought : (b : Bool) (x : X) (xs : List X) (m : ℕ) → Is b (x ∷ xs) 0 (suc m) → Is b xs 0 m
  from_nought b x xs m is k d low high = is (suc k) d (omega arith) (omega (arith, high))

  none_passes : (xs : List X) → Is false xs 0 (length xs) → filter p xs ≡ []
  none_passes [] is = refl
  none_passes (x ∷ xs) is = past x xs (first false x xs (length (x ∷ xs)) (omega arith) is) ∙ none_passes xs (from_nought false x xs (length xs) is)

  -- of a sorted list those between two places pass
  pub passes_between : (xs : List X) (n m : ℕ) → n ≤ m → m ≤ length xs → Is false xs 0 n → Is true xs n m → Is false xs m (length xs)
      → filter p xs ≡ take (m - n) (drop n xs)
  passes_between [] zero zero h g low mid high = refl
  passes_between [] n (suc m) h g low mid high = absurd (omega (arith, g))
  passes_between [] (suc n) zero h g low mid high = absurd (omega (arith, h))
  passes_between (x ∷ xs) zero zero h g low mid high = none_passes (x ∷ xs) high
  passes_between (x ∷ xs) zero (suc m) h g low mid high =
      let size : suc (m - 0) ≡ suc m - 0 = omega arith in
      here x xs (first true x xs (suc m) (omega arith) mid)
      ∙ ap (λ l. x ∷ l) (passes_between xs zero m (omega arith) (omega (arith, g)) (λ k d a b. absurd (omega (arith, b))) (from_nought true x xs m mid)
      (later false x xs m (length xs) high))
      ∙ ap (λ n. take n (x ∷ xs)) size
  passes_between (x ∷ xs) (suc n) zero h g low mid high = absurd (omega (arith, h))
  passes_between (x ∷ xs) (suc n) (suc m) h g low mid high =
      let size : m - n ≡ suc m - suc n = omega arith in
      past x xs (first false x xs (suc n) (omega arith) low)
      ∙ passes_between xs n m (omega (arith, h)) (omega (arith, g)) (from_nought false x xs n low) (later true x xs n m mid)
      (later false x xs m (length xs) high)
      ∙ ap (λ k. take k (drop n xs)) size

-- timestamps below t stand before the others, and so do those up to t
in_front : (t u v : ℤ) → is_lt (int_cmp v u) ≡ false → int_lt v t ≡ true → int_lt u t ≡ true
in_front t u v h g = grind (arith, h, g)

up_to : (t u v : ℤ) → is_lt (int_cmp v u) ≡ false → int_le v t ≡ true → int_le u t ≡ true
up_to t u v h g = grind (arith, h, g)

ranked : IsStrictWeakOrder (λ (x y : Entry). is_lt (int_cmp (stamp x) (stamp y)))
ranked = ranks_by int_cmp_total stamp

-- the rows below an instant stand in front
pub below_in_front : (rows : List Entry) (t : ℤ) → IsSortedByKey stamp int_cmp rows → IsPartitionedBy (λ e. int_lt (stamp e) t) rows
below_in_front rows t up i j d h g is =
    in_front t (get_or rows i d).0 (get_or rows j d).0 (sorted_far (λ x y. is_lt (int_cmp (stamp x) (stamp y))) ranked rows up i j d h g) is

-- and so do those up to it
pub up_to_in_front : (rows : List Entry) (t : ℤ) → IsSortedByKey stamp int_cmp rows → IsPartitionedBy (λ e. int_le (stamp e) t) rows
up_to_in_front rows t up i j d h g is =
    up_to t (get_or rows i d).0 (get_or rows j d).0 (sorted_far (λ x y. is_lt (int_cmp (stamp x) (stamp y))) ranked rows up i j d h g) is

-- a test that no row passes behind one that fails it, and a place where it turns
no_more : (p : Entry → Bool) (rows : List Entry) (n : ℕ) → IsPartitionedBy p rows → ((d : Entry) → n < length rows → p (get_or rows n d) ≡ false)
    → (k : ℕ) (d : Entry) → n ≤ k → k < length rows → p (get_or rows k d) ≡ false
no_more p rows n parted turns k d low high = step (p (get_or rows k d)) refl where
  step : (b : Bool) → p (get_or rows k d) ≡ b → p (get_or rows k d) ≡ false
  step false is = is
  step true is = absurd (let h = parted n k d low high is in let g = turns d (omega (arith, low, high)) in cc (sym h ∙ g))

-- what a test says of the row at a place, whatever is read elsewhere
pub read_there : (p : Entry → Bool) (b : Bool) (rows : List Entry) (n : ℕ) (e d : Entry) → n < length rows → e ≡ get_or rows n e → p e ≡ b
    → p (get_or rows n d) ≡ b
read_there p b rows n e d lt is h = subst (λ x. p x ≡ b) (get_or_read rows n e lt is d) h

-- the first place at which the test fails is behind all that pass it
pub ends_there : (p : Entry → Bool) (rows : List Entry) (n : ℕ) → IsPartitionedBy p rows
    → ((k : ℕ) (d : Entry) → k < n → p (get_or rows k d) ≡ true) → ((d : Entry) → n < length rows → p (get_or rows n d) ≡ false)
    → IsPartitionPoint (λ e. p e ≡ true) (λ e. p e ≡ false) rows n
ends_there p rows n parted front turns = (λ k d low high. front k d high, no_more p rows n parted turns)

-- and where one is found, it is that place
pub turns_there : (p : Entry → Bool) (rows : List Entry) (n : ℕ) → n ≤ length rows → IsPartitionedBy p rows
    → ((d : Entry) → 0 < n → p (get_or rows (n - 1) d) ≡ true) → ((d : Entry) → n < length rows → p (get_or rows n d) ≡ false)
    → IsPartitionPoint (λ e. p e ≡ true) (λ e. p e ≡ false) rows n
turns_there p rows n le parted before turns =
    ends_there p rows n parted (λ k d high. parted k (n - 1) d (omega (arith, high)) (omega (arith, high, le)) (before d (omega (arith, high)))) turns

clash : (t u : ℤ) → int_lt u t ≡ true → int_le u t ≡ false → ⊥
clash t u h g = grind (arith, h, g)

some_entry : (rows : List Entry) → 0 < length rows → Entry
some_entry [] h = absurd (omega (arith, h))
some_entry (e ∷ es) h = e

pub first_to_end : (rows : List Entry) (t : ℤ) (n m : ℕ) → n ≤ length rows → IsFirstItem rows t n → IsEnd rows t m → n ≤ m
first_to_end rows t n m h first end = step (nat_lt m n) refl where
  step : (b : Bool) → nat_lt m n ≡ b → n ≤ m
  step false e = grind (arith, nat_tests, e)
  step true e =
      let lt : m < n = grind (arith, nat_tests, e) in
      let d = some_entry rows (omega (arith, lt, h)) in
      absurd (clash t (get_or rows m d).0 (first.0 m d (omega arith) lt) (end.1 m d (omega arith) (omega (arith, lt, h))))

differs_below : (t u : ℤ) → int_lt u t ≡ true → int_eq u t ≡ false
differs_below t u h = grind (arith, h)

differs_above : (t u : ℤ) → int_le u t ≡ false → int_eq u t ≡ false
differs_above t u h = grind (arith, h)

is_same : (t u : ℤ) → int_lt u t ≡ false → int_le u t ≡ true → int_eq u t ≡ true
is_same t u h g = grind (arith, h, g)

-- the rows of an instant stand between its first place and its end
pub rows_between : (rows : List Entry) (t : ℤ) (n m : ℕ) → n ≤ m → m ≤ length rows → IsFirstItem rows t n → IsEnd rows t m
    → at_instant rows t ≡ map (λ e. e.1) (take (m - n) (drop n rows))
rows_between rows t n m h g first end =
    ap (λ l. map (λ (e : Entry). e.1) l) (passes_between (λ e. int_eq (stamp e) t) rows n m h g
    (λ k d a b. differs_below t (get_or rows k d).0 (first.0 k d a b))
    (λ k d a b. is_same t (get_or rows k d).0 (first.1 k d a (omega (arith, b, g))) (end.0 k d (omega arith) b))
    (λ k d a b. differs_above t (get_or rows k d).0 (end.1 k d a b)))

-- a stable sort leaves the rows of each timestamp in their order
tied : (t u : ℤ) → int_eq u t ≡ (not (is_lt (int_cmp t u)) && not (is_lt (int_cmp u t)))
tied t u = grind arith

-- sorting by instants leaves the rows of each instant as they stood
pub same_at : (rows sorted : List Entry) → IsStableByKey stamp int_cmp rows sorted → (t : ℤ) → at_instant sorted t ≡ at_instant rows t
same_at rows sorted stable t =
    let like : Entry = (t, []) in
    let tie : (e : Entry) → int_eq (stamp e) t ≡ ties (λ x y. is_lt (int_cmp (stamp x) (stamp y))) like e = λ e. tied t (stamp e) in
    ap (λ l. map (λ (e : Entry). e.1) l)
    (filter_agree (λ e. int_eq (stamp e) t) (ties (λ x y. is_lt (int_cmp (stamp x) (stamp y))) like) tie sorted
    ∙ stable like
    ∙ sym (filter_agree (λ e. int_eq (stamp e) t) (ties (λ x y. is_lt (int_cmp (stamp x) (stamp y))) like) tie rows))
