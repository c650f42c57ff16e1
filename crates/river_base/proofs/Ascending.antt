-- A list in ascending order is a function of the bag.
use Rattle.std.proofs.Common.{◌≡◌, ◌<◌, zero, suc, Bool, true, false, cond, List, [], ◌∷◌, length, get_or, refl, sym, ap, subst, ◌∙◌, arith}
use Rattle.std.proofs.lemmas.List.Sorted.{IsPermutation-refl, IsPermutation-trans, IsPermutation-swap, IsPermutation-cons}
use Rattle.std.specs.Cmp.{IsStrictWeakOrder}
use Rattle.std.specs.List.Sorted.{IsPermutation, IsSortedBy}
use native.Mathlib.Numerals.{unary_clauses}
use Rattle.std.proofs.lemmas.Bool.{true≢false}
use Rattle.river_base.specs.Bags.{put_in_order, ascending}
use Rattle.river_base.proofs.Bags.{fold-IsPermutation, fold_first}

module _ {K : Type 0} (lt : K → K → Bool) (o : IsStrictWeakOrder lt) (exact : (x y : K) → lt x y ≡ false → lt y x ≡ false → x ≡ y) where
  above : (x y z : K) (b : Bool) → lt y x ≡ b → lt z x ≡ true → lt z y ≡ false → b ≡ true
  above x y z true e h g = refl
  above x y z false e h g = sym (o.chain z y x g e) ∙ h

  in_turn : (x y : K) (rest : List K) (b c : Bool) → lt y x ≡ b → lt x y ≡ c
      → cond b (y ∷ (x ∷ rest)) (x ∷ (y ∷ rest)) ≡ cond c (x ∷ (y ∷ rest)) (y ∷ (x ∷ rest))
  in_turn x y rest true true h g = absurd (true≢false (sym g ∙ o.one_way y x h))
  in_turn x y rest true false h g = refl
  in_turn x y rest false true h g = refl
  in_turn x y rest false false h g = let e : x ≡ y = exact x y g h in λ i. e i ∷ (sym e i ∷ rest)

  past : (x z : K) (zs : List K) → lt z x ≡ true → put_in_order lt x (z ∷ zs) ≡ z ∷ put_in_order lt x zs
  past x z zs h = ap (λ b. cond b (z ∷ put_in_order lt x zs) (x ∷ (z ∷ zs))) h

  here : (x z : K) (zs : List K) → lt z x ≡ false → put_in_order lt x (z ∷ zs) ≡ x ∷ (z ∷ zs)
  here x z zs h = ap (λ b. cond b (z ∷ put_in_order lt x zs) (x ∷ (z ∷ zs))) h

  mixed : (x y z : K) (zs : List K) → lt z y ≡ true → lt z x ≡ false
      → put_in_order lt x (put_in_order lt y (z ∷ zs)) ≡ put_in_order lt y (put_in_order lt x (z ∷ zs))
  mixed x y z zs h g =
      ap (put_in_order lt x) (past y z zs h) ∙ here x z (put_in_order lt y zs) g
      ∙ sym (ap (put_in_order lt y) (here x z zs g) ∙ past y x (z ∷ zs) (above y x z (lt x y) refl h g) ∙ ap (λ l. x ∷ l) (past y z zs h))

  -- to put x in its place, and then y, or the other way round
  pub place-place : (x y : K) (zs : List K) → put_in_order lt x (put_in_order lt y zs) ≡ put_in_order lt y (put_in_order lt x zs)
  place-place x y [] = in_turn x y [] (lt y x) (lt x y) refl refl
  place-place x y (z ∷ zs) = step (place-place x y zs) (lt z y) (lt z x) refl refl where
    step : put_in_order lt x (put_in_order lt y zs) ≡ put_in_order lt y (put_in_order lt x zs) → (p q : Bool) → lt z y ≡ p → lt z x ≡ q
        → put_in_order lt x (put_in_order lt y (z ∷ zs)) ≡ put_in_order lt y (put_in_order lt x (z ∷ zs))
    step same true true h g =
        ap (put_in_order lt x) (past y z zs h) ∙ past x z (put_in_order lt y zs) g ∙ ap (λ l. z ∷ l) same
        ∙ sym (ap (put_in_order lt y) (past x z zs g) ∙ past y z (put_in_order lt x zs) h)
    step same true false h g = mixed x y z zs h g
    step same false true h g = sym (mixed y x z zs g h)
    step same false false h g =
        ap (put_in_order lt x) (here y z zs h)
        ∙ ap (λ l. cond (lt y x) (y ∷ l) (x ∷ (y ∷ (z ∷ zs)))) (here x z zs g)
        ∙ in_turn x y (z ∷ zs) (lt y x) (lt x y) refl refl
        ∙ sym (ap (put_in_order lt y) (here x z zs g) ∙ ap (λ l. cond (lt x y) (x ∷ l) (y ∷ (x ∷ (z ∷ zs)))) (here y z zs h))

  commutes : (b : List K) (x y : K) → put_in_order lt y (put_in_order lt x b) ≡ put_in_order lt x (put_in_order lt y b)
  commutes b x y = place-place y x b

  -- the ascending list of a bag
  pub ascending-IsPermutation : (xs ys : List K) → IsPermutation xs ys → ascending lt xs ≡ ascending lt ys
  ascending-IsPermutation xs ys h = fold-IsPermutation (λ done x. put_in_order lt x done) commutes [] xs ys h

  pub ascending-cons : (x : K) (xs : List K) → ascending lt (x ∷ xs) ≡ put_in_order lt x (ascending lt xs)
  ascending-cons x xs = fold_first (λ done y. put_in_order lt y done) commutes [] x xs

  first_stays : (x : K) (xs : List K) → IsSortedBy lt (x ∷ xs) → put_in_order lt x xs ≡ x ∷ xs
  first_stays x [] h = refl
  first_stays x (y ∷ ys) h = here x y ys (h 0 x (omega arith) (omega arith))

  later : (x : K) (xs : List K) → IsSortedBy lt (x ∷ xs) → IsSortedBy lt xs
  later x xs h k d low high = simp unary_clauses (simp unary_clauses at (h (suc k) d (omega arith) (omega arith)))

  -- a list in order is its own ascending list
  pub ascending_sorted : (xs : List K) → IsSortedBy lt xs → ascending lt xs ≡ xs
  ascending_sorted [] h = refl
  ascending_sorted (x ∷ xs) h = ascending-cons x xs ∙ ap (put_in_order lt x) (ascending_sorted xs (later x xs h)) ∙ first_stays x xs h

  -- so two lists in order with the same bag are one list
  pub same_from_sorted : (xs ys : List K) → IsPermutation xs ys → IsSortedBy lt xs → IsSortedBy lt ys → xs ≡ ys
  same_from_sorted xs ys h s t = sym (ascending_sorted xs s) ∙ ascending-IsPermutation xs ys h ∙ ascending_sorted ys t

  -- and what a sort leaves is the ascending list
  pub ascending_from_sort : (xs ys : List K) → IsPermutation xs ys → IsSortedBy lt ys → ys ≡ ascending lt xs
  ascending_from_sort xs ys h t = sym (ascending-IsPermutation xs ys h ∙ ascending_sorted ys t)

  sorted_cons : (x : K) (xs : List K) → IsSortedBy lt xs → ((d : K) → 0 < length xs → lt (get_or xs 0 d) x ≡ false) → IsSortedBy lt (x ∷ xs)
  sorted_cons x xs s low zero d from to = low d (omega arith)
  sorted_cons x xs s low (suc k) d from to = simp unary_clauses (simp unary_clauses at (s k d (omega arith) (omega arith)))

  -- what is first after x is put in its place
  first_of : (x : K) (ys : List K) (P : K → Type 0) → P x → ((d : K) → 0 < length ys → P (get_or ys 0 d)) → (d : K) → P (get_or (put_in_order lt x ys) 0 d)
  first_of x [] P p q d = p
  first_of x (z ∷ zs) P p q d = step (lt z x) refl where
    step : (b : Bool) → lt z x ≡ b → P (get_or (put_in_order lt x (z ∷ zs)) 0 d)
    step true h = subst (λ l. P (get_or l 0 d)) (sym (past x z zs h)) (q z (omega arith))
    step false h = subst (λ l. P (get_or l 0 d)) (sym (here x z zs h)) p

  place_sorted : (x : K) (ys : List K) → IsSortedBy lt ys → IsSortedBy lt (put_in_order lt x ys)
  place_sorted x [] s = λ k d from to. absurd (omega arith)
  place_sorted x (y ∷ ys) s = step (place_sorted x ys (later y ys s)) (lt y x) refl where
    step : IsSortedBy lt (put_in_order lt x ys) → (b : Bool) → lt y x ≡ b → IsSortedBy lt (put_in_order lt x (y ∷ ys))
    step more true h =
        subst (IsSortedBy lt) (sym (past x y ys h)) (sorted_cons y (put_in_order lt x ys) more (λ d some.
        first_of x ys (λ z. lt z y ≡ false) (o.one_way y x h) (λ e there. s 0 e (omega arith) (omega arith)) d))
    step more false h = subst (IsSortedBy lt) (sym (here x y ys h)) (sorted_cons x (y ∷ ys) s (λ d some. h))

  place_bag : (x : K) (ys : List K) → IsPermutation (x ∷ ys) (put_in_order lt x ys)
  place_bag x [] = IsPermutation-refl (x ∷ [])
  place_bag x (y ∷ ys) = step (place_bag x ys) (lt y x) refl where
    step : IsPermutation (x ∷ ys) (put_in_order lt x ys) → (b : Bool) → lt y x ≡ b → IsPermutation (x ∷ (y ∷ ys)) (put_in_order lt x (y ∷ ys))
    step more true h =
        subst (IsPermutation (x ∷ (y ∷ ys))) (sym (past x y ys h)) (IsPermutation-trans (x ∷ (y ∷ ys)) (y ∷ (x ∷ ys)) (y ∷ put_in_order lt x ys)
        (IsPermutation-swap (x ∷ (y ∷ ys)) (y ∷ (x ∷ ys)) 0 1 (omega arith) (omega arith) refl) (IsPermutation-cons y (x ∷ ys) (put_in_order lt x ys) more))
    step more false h = subst (IsPermutation (x ∷ (y ∷ ys))) (sym (here x y ys h)) (IsPermutation-refl (x ∷ (y ∷ ys)))

  -- the ascending list is in order
  pub ascending_ascends : (xs : List K) → IsSortedBy lt (ascending lt xs)
  ascending_ascends [] = λ k d from to. absurd (omega arith)
  ascending_ascends (x ∷ xs) = subst (IsSortedBy lt) (sym (ascending-cons x xs)) (place_sorted x (ascending lt xs) (ascending_ascends xs))

  -- and it has the same elements
  pub ascending_bag : (xs : List K) → IsPermutation xs (ascending lt xs)
  ascending_bag [] = IsPermutation-refl []
  ascending_bag (x ∷ xs) =
      subst (IsPermutation (x ∷ xs)) (sym (ascending-cons x xs))
      (IsPermutation-trans (x ∷ xs) (x ∷ ascending lt xs) (put_in_order lt x (ascending lt xs)) (IsPermutation-cons x xs (ascending lt xs) (ascending_bag xs))
      (place_bag x (ascending lt xs)))
