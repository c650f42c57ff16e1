-- Bags by counts and as permutations.
use Rattle.std.proofs.Common.{◌≡◌, suc, ◌+◌, ◌<◌, ℤ, Bool, true, false, cond, List, [], ◌∷◌, ◌++◌, Ordering, refl, sym, ap, ◌∙◌, subst, arith}
use Rattle.std.specs.Prelude.{count_by}
use Rattle.std.specs.declared.cmp.Ordering.TheVariants.{Less, Equal, Greater}
use Rattle.std.specs.Ordering.{is_eq}
use Rattle.std.specs.List.Sorted.{IsPermutation}
use Rattle.std.proofs.lemmas.List.Sums.{sum_by-cons}
use Rattle.std.proofs.lemmas.Bool.{true≢false}
use Rattle.std.proofs.lemmas.Cmp.{tied_itself}
use Rattle.std.proofs.lemmas.List.Sorted.{IsPermutation-refl, IsPermutation-cons, IsPermutation-trans, IsPermutation-sym, IsPermutation-middle}
use Rattle.std.proofs.lemmas.List.Sorted.{sum_by-IsPermutation}
use Rattle.river_base.specs.Bags.{SameBag}
use Rattle.river_base.specs.Row.{row_eq, row_cmp, row_ties, row_total, copies}
use Rattle.river_base.proofs.Rows.{exact_rows}

-- rows that the test calls equal are one
pub same_row : (a b : List ℤ) → row_eq a b ≡ true → a ≡ b
same_row a b h = step (row_cmp a b) refl (sym (row_ties a b) ∙ h) where
  step : (r : Ordering) → row_cmp a b ≡ r → is_eq (row_cmp a b) ≡ true → a ≡ b
  step Equal e g = exact_rows a b e
  step Less e g = absurd (true≢false (sym g ∙ ap is_eq e))
  step Greater e g = absurd (true≢false (sym g ∙ ap is_eq e))

-- and it calls each row equal to itself
pub row_itself : (a : List ℤ) → row_eq a a ≡ true
row_itself a = row_ties a a ∙ ap is_eq (tied_itself row_total a)

-- COUNTS

-- one more element, counted
pub count-cons : {K : Type 0} (test : K → Bool) (x : K) (xs : List K) → count_by test (x ∷ xs) ≡ cond (test x) 1 0 + count_by test xs
count-cons test x xs = sum_by-cons (λ y. cond (test y) 1 0) x xs

-- one that passes counts one
pub count_pass : {K : Type 0} (test : K → Bool) (x : K) (xs : List K) → test x ≡ true → count_by test (x ∷ xs) ≡ suc (count_by test xs)
count_pass test x xs h = count-cons test x xs ∙ ap (λ b. cond b 1 0 + count_by test xs) h ∙ omega arith

-- one that does not pass counts nothing
pub count_fail : {K : Type 0} (test : K → Bool) (x : K) (xs : List K) → test x ≡ false → count_by test (x ∷ xs) ≡ count_by test xs
count_fail test x xs h = count-cons test x xs ∙ ap (λ b. cond b 1 0 + count_by test xs) h ∙ omega arith

count_middle : (test : List ℤ → Bool) (x : List ℤ) (a b : List (List ℤ)) → count_by test (a ++ x ∷ b) ≡ count_by test (x ∷ (a ++ b))
count_middle test x [] b = refl
count_middle test x (y ∷ ys) b =
    let m = count_middle test x ys b in
    let c = count-cons test y (ys ++ x ∷ b) in
    let d = count-cons test x (y ∷ (ys ++ b)) in
    let e = count-cons test y (ys ++ b) in
    let f = count-cons test x (ys ++ b) in
    omega (arith, m, c, d, e, f)

less_by_one : (test : List ℤ → Bool) (x : List ℤ) (xs ys : List (List ℤ)) → count_by test (x ∷ xs) ≡ count_by test (x ∷ ys)
    → count_by test xs ≡ count_by test ys
less_by_one test x xs ys h = let a = count-cons test x xs in let b = count-cons test x ys in omega (arith, a, b, h)

-- where a row stands
record Stands (x : List ℤ) (ys : List (List ℤ)) : Type 0 where
  before : List (List ℤ)
  behind : List (List ℤ)
  is : ys ≡ before ++ x ∷ behind

found : (x : List ℤ) (ys : List (List ℤ)) → 0 < copies x ys → Stands x ys
found x [] h = absurd (omega (arith, h))
found x (y ∷ ys) h = step (row_eq x y) refl (found x ys) where
  step : (b : Bool) → row_eq x y ≡ b → (0 < copies x ys → Stands x ys) → Stands x (y ∷ ys)
  step true e more = record { before = []; behind = ys; is = ap (λ u. u ∷ ys) (sym (same_row x y e)) }
  step false e more =
      let m = more (subst (λ n. 0 < n) (count_fail (row_eq x) y ys e) h) in
      record { before = y ∷ m.before; behind = m.behind; is = ap (λ l. y ∷ l) m.is }

-- BAGS

-- lists with as many copies of each row are one bag
pub permutation_from_copies : (xs ys : List (List ℤ)) → ((row : List ℤ) → copies row xs ≡ copies row ys) → IsPermutation xs ys
permutation_from_copies [] [] h = IsPermutation-refl []
permutation_from_copies [] (y ∷ ys) h = absurd (let a = h y in let b = count_pass (row_eq y) y ys (row_itself y) in omega (arith, a, b))
permutation_from_copies (x ∷ xs) ys h =
    let a : copies x ys ≡ suc (copies x xs) = sym (h x) ∙ count_pass (row_eq x) x xs (row_itself x) in
    let s : Stands x ys = found x ys (omega (arith, a)) in
    let rest = s.before ++ s.behind in
    let p : IsPermutation xs rest =
    permutation_from_copies xs rest
    (λ row. less_by_one (row_eq row) x xs rest (h row ∙ ap (copies row) s.is ∙ count_middle (row_eq row) x s.before s.behind)) in
    let q : IsPermutation (x ∷ rest) ys =
    IsPermutation-sym ys (x ∷ rest) (subst (λ l. IsPermutation l (x ∷ rest)) (sym s.is) (IsPermutation-middle s.before x s.behind)) in
    IsPermutation-trans (x ∷ xs) (x ∷ rest) ys (IsPermutation-cons x xs rest p) q

-- a bag by tests is one by the order of its elements
pub permutation_from_bag : (xs ys : List (List ℤ)) → SameBag xs ys → IsPermutation xs ys
permutation_from_bag xs ys h = permutation_from_copies xs ys (λ row. h (row_eq row))

-- and back
pub bag_from_permutation : {K : Type 0} (xs ys : List K) → IsPermutation xs ys → SameBag xs ys
bag_from_permutation xs ys h = λ test. sym (sum_by-IsPermutation (λ y. cond (test y) 1 0) xs ys h)
