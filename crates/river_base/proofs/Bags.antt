-- What does not depend on the order of a list's elements.
use Rattle.std.proofs.Common.{◌≡◌, ℕ, zero, suc, ◌<◌, List, [], ◌∷◌, length, get_or, refl, sym, ap, ◌∙◌, arith, fold}
use Rattle.std.proofs.Math.ListN.{set}
use Rattle.std.specs.List.Sorted.{IsPermutation}
use Rattle.std.proofs.lemmas.List.Sorted.{IsPermutation-keeps}
use Rattle.std.proofs.lemmas.List.Edits.{swap_is}

-- a fold whose steps commute
module _ {A B : Type 0} (f : B → A → B) (commutes : (b : B) (x y : A) → f (f b x) y ≡ f (f b y) x) where
  -- the first element may go in last
  pub fold_first : (b : B) (x : A) (xs : List A) → fold f (f b x) xs ≡ f (fold f b xs) x
  fold_first b x [] = refl
  fold_first b x (y ∷ ys) = ap (λ c. fold f c ys) (commutes b x y) ∙ fold_first (f b y) x ys

  -- x goes in first and y at place j, or the other way round
  exchange : (b : B) (x d : A) (xs : List A) (j : ℕ) → j < length xs → fold f (f b (get_or xs j d)) (set xs j x) ≡ fold f (f b x) xs
  exchange b x d [] j h = absurd (omega arith)
  exchange b x d (z ∷ zs) zero h = ap (λ c. fold f c zs) (commutes b z x)
  exchange b x d (z ∷ zs) (suc j) h =
      ap (λ c. fold f c (set zs j x)) (commutes b (get_or zs j d) z) ∙ exchange (f b z) x d zs j (omega arith) ∙ ap (λ c. fold f c zs) (commutes b z x)

  swapped : (b : B) (d : A) (xs : List A) (i j : ℕ) → i < length xs → j < length xs → fold f b (set (set xs i (get_or xs j d)) j (get_or xs i d)) ≡ fold f b xs
  swapped b d [] i j h g = absurd (omega arith)
  swapped b d (x ∷ xs) zero zero h g = refl
  swapped b d (x ∷ xs) zero (suc j) h g = exchange b x d xs j (omega arith)
  swapped b d (x ∷ xs) (suc i) zero h g = exchange b x d xs i (omega arith)
  swapped b d (x ∷ xs) (suc i) (suc j) h g = swapped (f b x) d xs i j (omega arith) (omega arith)

  first_of_list : (l : List A) → 0 < length l → A
  first_of_list [] h = absurd (omega arith)
  first_of_list (x ∷ xs) h = x

  -- a fold is a function of the bag
  pub fold-IsPermutation : (b : B) (xs ys : List A) → IsPermutation xs ys → fold f b xs ≡ fold f b ys
  fold-IsPermutation b xs ys h =
      sym (IsPermutation-keeps xs (λ l. fold f b l ≡ fold f b xs) refl (λ l i j p q e.
      let d : A = first_of_list l (omega arith) in
      ap (fold f b) (sym (swap_is l i j d p q)) ∙ swapped b d l i j p q ∙ e) ys h)
