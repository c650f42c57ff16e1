-- Rows as bags: what does not see the order of rows.
use Rattle.std.proofs.Common.{◌≡◌, ℕ, ◌+◌, ℤ, List, [], ◌∷◌, ◌++◌, refl, sym, ◌∙◌, arith, Bool, cond, map, filter}
use Rattle.std.specs.Prelude.{All, sum_by}
use Rattle.std.specs.List.{flat_map}
use Rattle.std.specs.List.Sorted.{IsSorted}
use Rattle.std.proofs.lemmas.List.Elements.{All-head, All-tail}
use Rattle.std.proofs.lemmas.List.Kept.{IsSortedBy-filter}
use Rattle.std.proofs.lemmas.List.Sums.{sum_by-cons}
use Rattle.kern_changes.proofs.Leading.{sum-map, sum-filter, sum-flat_map, sum-in_order, same_order}
use Rattle.river_base.specs.Row.{row_cmp, row_eq, in_order}
use Rattle.river_base.proofs.Rows.{rows_ranked, in_order_ascends, in_order_sorted}
use Rattle.kern_bags.specs.Contents.{difference, product, without}
use Rattle.kern_changes.proofs.Copies.{sum-cong, copies-in_order, copies-without}

-- the same sums over the elements that are there
pub sum-on : {K : Type 0} (P : K → Type 0) (f g : K → ℕ) (xs : List K) → All P xs → ((x : K) → P x → f x ≡ g x) → sum_by f xs ≡ sum_by g xs
sum-on P f g [] a h = refl
sum-on P f g (x ∷ xs) a h =
    let e = h x (All-head P x xs a) in
    let m = sum-on P f g xs (All-tail P x xs a) h in
    sum_by-cons f x xs ∙ (λ i. e i + m i) ∙ sym (sum_by-cons g x xs)

-- ROWS

-- bags over which all sums agree are the same in order
pub same_bag : (xs ys : List (List ℤ)) → ((f : List ℤ → ℕ) → sum_by f xs ≡ sum_by f ys) → in_order xs ≡ in_order ys
same_bag xs ys h = same_order xs ys (λ row. h (λ y. cond (row_eq row y) 1 0))

order_is : (xs ys : List (List ℤ)) → IsSorted row_cmp xs → ((f : List ℤ → ℕ) → sum_by f xs ≡ sum_by f ys) → xs ≡ in_order ys
order_is xs ys a h = sym (in_order_sorted xs a) ∙ same_bag xs ys h

-- a test before or behind the ordering
pub filter-in_order : (p : List ℤ → Bool) (xs : List (List ℤ)) → filter p (in_order xs) ≡ in_order (filter p xs)
filter-in_order p xs = order_is (filter p (in_order xs)) (filter p xs) (IsSortedBy-filter _ rows_ranked p (in_order xs) (in_order_ascends xs)) (λ f.
    sum-filter f p (in_order xs) ∙ sum-in_order (λ x. cond (p x) (f x) 0) xs ∙ sym (sum-filter f p xs))

-- a function of rows before or behind the ordering
pub in_order-map : (g : List ℤ → List ℤ) (xs : List (List ℤ)) → in_order (map g (in_order xs)) ≡ in_order (map g xs)
in_order-map g xs = same_bag (map g (in_order xs)) (map g xs) (λ f. sum-map f g (in_order xs) ∙ sum-in_order (λ x. f (g x)) xs ∙ sym (sum-map f g xs))

-- all pairs of two lists of rows, joined
abbrev pub pairs : List (List ℤ) → List (List ℤ) → List (List ℤ)
pairs xs ys = flat_map (λ x. map (λ y. x ++ y) ys) xs

-- the sum over all pairs, one side after the other
pub sum-pairs : (f : List ℤ → ℕ) (xs ys : List (List ℤ)) → sum_by f (pairs xs ys) ≡ sum_by (λ x. sum_by (λ y. f (x ++ y)) ys) xs
sum-pairs f xs ys =
    sum-flat_map f (λ x. map (λ y. x ++ y) ys) xs
    ∙ sum-cong (λ x. sum_by f (map (λ y. x ++ y) ys)) (λ x. sum_by (λ y. f (x ++ y)) ys) xs (λ x. sum-map f (λ y. x ++ y) ys)

-- the product of two contents in order
pub product_is : (xs ys : List (List ℤ)) → product (in_order xs) (in_order ys) ≡ in_order (pairs xs ys)
product_is xs ys = same_bag (pairs (in_order xs) (in_order ys)) (pairs xs ys) (λ f.
    sum-pairs f (in_order xs) (in_order ys)
    ∙ sum-in_order (λ x. sum_by (λ y. f (x ++ y)) (in_order ys)) xs
    ∙ sum-cong (λ x. sum_by (λ y. f (x ++ y)) (in_order ys)) (λ x. sum_by (λ y. f (x ++ y)) ys) xs (λ x. sum-in_order (λ y. f (x ++ y)) ys)
    ∙ sym (sum-pairs f xs ys))

-- the difference of two contents in order
pub difference_is : (xs ys : List (List ℤ)) → difference (in_order xs) (in_order ys) ≡ in_order (without xs ys)
difference_is xs ys = same_order (without (in_order xs) (in_order ys)) (without xs ys) (λ row.
    let a = copies-in_order row xs in
    let b = copies-in_order row ys in
    let c = copies-without row (in_order xs) (in_order ys) in
    let d = copies-without row xs ys in
    omega (arith, a, b, c, d))
