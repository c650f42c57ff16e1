-- The first number above a limit, one element at a time.
use Rattle.std.proofs.Common.{◌≡◌, ℕ, ◌+◌, ◌<◌, ◌≤◌, Bool, true, false, List, [], ◌∷◌, ◌++◌, Option, Some, None, length, drop, get_or, inl, inr, refl, sym, ap}
use Rattle.std.proofs.Common.{◌∙◌, arith, nat_lt}
use Rattle.std.specs.Prelude.{if◌then◌else◌}
use Rattle.std.specs.Option.{option_map}
use Rattle.std.proofs.lemmas.List.{drop_more, drop_all}
use borrow.Author.Tests.{ltb-true, ltb-false}
use Rattle.river_kernels.specs.Limits.{told, either, first_above}
use Rattle.kern_check.proofs.LimitLemmas.{first_above-append}
use Rattle.river_plan.specs.First.{As, IsFirst, Along, Unless}

-- the numbers of a list of elements, of which each has its own
module _ {C : Type 0} (most : ℕ) (F : List C → List ℕ) (g : C → List ℕ) (cons : (x : C) (xs : List C) → F (x ∷ xs) ≡ g x ++ F xs) where
  step : (xs : List C) (i : ℕ) (x : C) → i < length xs → x ≡ get_or xs i x
      → first_above most (F (drop i xs)) ≡ either (first_above most (g x)) (first_above most (F (drop (i + 1) xs)))
  step xs i x lt e =
      ap (λ l. first_above most (F l)) (drop_more xs i x lt ∙ ap (λ y. y ∷ drop (i + 1) xs) (sym e)) ∙ ap (first_above most) (cons x (drop (i + 1) xs))
      ∙ first_above-append most (g x) (F (drop (i + 1) xs))

  -- this number is within the limit: the search goes on
  pub over-next : (xs : List C) (i : ℕ) (x : C) → i < length xs → x ≡ get_or xs i x → None ≡ first_above most (g x)
      → first_above most (F (drop i xs)) ≡ first_above most (F xs) → first_above most (F (drop (i + 1) xs)) ≡ first_above most (F xs)
  over-next xs i x lt e n h = ap (λ o. either o (first_above most (F (drop (i + 1) xs)))) n ∙ sym (step xs i x lt e) ∙ h

  -- this number is above the limit: it is the first
  pub over-found : (xs : List C) (i : ℕ) (x : C) (n : ℕ) → i < length xs → x ≡ get_or xs i x → Some n ≡ first_above most (g x)
      → first_above most (F (drop i xs)) ≡ first_above most (F xs) → Some n ≡ first_above most (F xs)
  over-found xs i x n lt e f h = ap (λ o. either o (first_above most (F (drop (i + 1) xs)))) f ∙ sym (step xs i x lt e) ∙ h

  -- all numbers are within the limit
  pub over-end : (xs : List C) (i : ℕ) → length xs ≤ i → F [] ≡ [] → first_above most (F (drop i xs)) ≡ first_above most (F xs) → None ≡ first_above most (F xs)
  over-end xs i le z h = sym (ap (first_above most) z) ∙ sym (ap (λ l. first_above most (F l)) (drop_all i xs le)) ∙ h

-- the first number above is the first that is not at most
along_above : {B : Type 0} (most : ℕ) (f : ℕ → B) (before xs : List ℕ) (o : Option ℕ) → o ≡ first_above most xs
    → As (λ n. f (told n)) (Along (λ b n. Unless (n ≤ most) n) before xs) (option_map f o)
along_above most f before [] None e = tt
along_above most f before [] (Some n) e = absurd (cc e)
along_above most f before (x ∷ xs) o e = by_case (nat_lt most x) refl o e (along_above most f (before ++ x ∷ []) xs)
  where
    by_case : (b : Bool) → nat_lt most x ≡ b → (o : Option ℕ) → o ≡ first_above most (x ∷ xs)
        → ((o : Option ℕ) → o ≡ first_above most xs → As (λ n. f (told n)) (Along (λ b n. Unless (n ≤ most) n) (before ++ x ∷ []) xs) (option_map f o))
        → As (λ n. f (told n)) (Along (λ b n. Unless (n ≤ most) n) before (x ∷ xs)) (option_map f o)
    by_case true t o e go = above_case o (e ∙ ap (λ c. if c then Some (told x) else first_above most xs) t)
      where
        above_case : (o : Option ℕ) → o ≡ Some (told x) → As (λ n. f (told n)) (Along (λ b n. Unless (n ≤ most) n) before (x ∷ xs)) (option_map f o)
        above_case None q = absurd (cc q)
        above_case (Some n) q = (x, ap f (let s : told x ≡ n = cc in s), inl ((λ le. let lt = ltb-true most x t in omega (arith, le, lt)), refl))
    by_case false t o e go = below_case o (e ∙ ap (λ c. if c then Some (told x) else first_above most xs) t)
      where
        below_case : (o : Option ℕ) → o ≡ first_above most xs → As (λ n. f (told n)) (Along (λ b n. Unless (n ≤ most) n) before (x ∷ xs)) (option_map f o)
        below_case None q = (ltb-false most x t, go None q)
        below_case (Some n) q = let r = go (Some n) q in (r.0, r.1, inr (ltb-false most x t, r.2))

-- the first number above a limit is the first of the definition
pub first-above : {B : Type 0} (most : ℕ) (f : ℕ → B) (xs : List ℕ) (o : Option ℕ) → o ≡ first_above most xs
    → As (λ n. f (told n)) (IsFirst (λ before n. n ≤ most) xs) (option_map f o)
first-above most f xs o e = along_above most f [] xs o e
