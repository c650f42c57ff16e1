-- How many copies of a row there are in a difference of bags.
use Rattle.std.proofs.Common.{◌≡◌, ℕ, ◌+◌, ◌-◌, ◌≤◌, ℤ, Bool, true, false, cond, List, [], ◌∷◌, map, refl, sym, ap, ◌∙◌, arith}
use Rattle.std.specs.Prelude.{count_by, sum_by, flat_map}
use Rattle.std.proofs.lemmas.List.Sums.{sum_by-cons}
use Rattle.std.proofs.lemmas.Bool.{true≢false}
use Rattle.river_base.proofs.Lists.{count_by-append}
use Rattle.river_base.specs.Changes.{take_out, without, difference}
use Rattle.river_base.specs.Row.{row_eq, in_order, copies}
use Rattle.river_base.proofs.Counts.{same_row, row_itself, count-cons, bag_from_permutation}
use Rattle.river_base.proofs.Rows.{in_order_bag}

-- COUNTS OF LISTS

-- elements counted behind a function
pub count-map : {J K : Type 0} (test : K → Bool) (g : J → K) (xs : List J) → count_by test (map g xs) ≡ count_by (λ x. test (g x)) xs
count-map test g [] = refl
count-map test g (x ∷ xs) =
    count-cons test (g x) (map g xs) ∙ ap (λ n. cond (test (g x)) 1 0 + n) (count-map test g xs) ∙ sym (count-cons (λ y. test (g y)) x xs)

-- elements counted in lists that are made of each element
pub count-flat_map : {J K : Type 0} (test : K → Bool) (g : J → List K) (xs : List J) → count_by test (flat_map g xs) ≡ sum_by (λ x. count_by test (g x)) xs
count-flat_map test g [] = refl
count-flat_map test g (x ∷ xs) =
    count_by-append test (g x) (flat_map g xs) ∙ ap (λ n. count_by test (g x) + n) (count-flat_map test g xs) ∙ sym (sum_by-cons (λ y. count_by test (g y)) x xs)

-- sums of equal numbers are equal
pub sum-cong : {K : Type 0} (f g : K → ℕ) (xs : List K) → ((x : K) → f x ≡ g x) → sum_by f xs ≡ sum_by g xs
sum-cong f g [] h = refl
sum-cong f g (x ∷ xs) h = sum_by-cons f x xs ∙ (λ i. h x i + sum-cong f g xs h i) ∙ sym (sum_by-cons g x xs)

-- the order of a bag changes no count
pub copies-in_order : (row : List ℤ) (xs : List (List ℤ)) → copies row (in_order xs) ≡ copies row xs
copies-in_order row xs = sym (bag_from_permutation xs (in_order xs) (in_order_bag xs) (row_eq row))

-- DIFFERENCES

abbrev one : List ℤ → List ℤ → ℕ
one row x = cond (row_eq row x) 1 0

-- a row is not two others
never_both : (row x y : List ℤ) → row_eq x y ≡ false → one row x + one row y ≤ 1
never_both row x y h = step (row_eq row x) (row_eq row y) refl refl where
  step : (b c : Bool) → row_eq row x ≡ b → row_eq row y ≡ c → cond b 1 0 + cond c 1 0 ≤ 1
  step true true p q = absurd (true≢false (sym (row_itself x) ∙ ap (row_eq x) (sym (same_row row x p) ∙ same_row row y q) ∙ h))
  step true false p q = omega arith
  step false c p q = at_most c where
    at_most : (c : Bool) → 0 + cond c 1 0 ≤ 1
    at_most true = omega arith
    at_most false = omega arith

copies-take_out : (row y : List ℤ) (xs : List (List ℤ)) → copies row (take_out y xs) ≡ copies row xs - one row y
copies-take_out row y [] = omega arith
copies-take_out row y (x ∷ xs) = step (row_eq x y) refl (copies-take_out row y xs) where
  step : (b : Bool) → row_eq x y ≡ b → copies row (take_out y xs) ≡ copies row xs - one row y
      → copies row (cond b xs (x ∷ take_out y xs)) ≡ copies row (x ∷ xs) - one row y
  step true e h = let c = count-cons (row_eq row) x xs in let same : one row x ≡ one row y = ap (one row) (same_row x y e) in omega (arith, c, same)
  step false e h =
      let c = count-cons (row_eq row) x xs in let d = count-cons (row_eq row) x (take_out y xs) in let n = never_both row x y e in omega (arith, c, d, n, h)

-- how many copies are left of a row
pub copies-without : (row : List ℤ) (xs ys : List (List ℤ)) → copies row (without xs ys) ≡ copies row xs - copies row ys
copies-without row xs [] = omega arith
copies-without row xs (y ∷ ys) =
    let a = copies-without row (take_out y xs) ys in let b = copies-take_out row y xs in let c = count-cons (row_eq row) y ys in omega (arith, a, b, c)

-- a difference has as many copies as one has more than the other
pub differences_are : (xs ys : List (List ℤ)) (row : List ℤ) → copies row (difference xs ys) ≡ copies row xs - copies row ys
differences_are xs ys row = copies-in_order row (without xs ys) ∙ copies-without row xs ys
