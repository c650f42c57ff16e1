-- Rows in ascending order.
use Rattle.std.proofs.Common.{◌≡◌, false, List, [], ◌∷◌, ℤ, Ordering, refl, sym, ap, ◌∙◌}
use Rattle.std.specs.declared.cmp.Ordering.TheVariants.{Less, Equal, Greater}
use Rattle.std.specs.Ordering.{int_cmp, is_lt, ordering_reverse, ordering_then}
use Rattle.std.specs.Cmp.{IsTotalOrder, IsStrictWeakOrder}
use Rattle.std.specs.Cmp.Lexicographic.{slice_cmp}
use Rattle.std.specs.List.Sorted.{IsPermutation, IsSorted}
use Rattle.std.proofs.lemmas.List.Sorted.{ranks_by}
use Rattle.std.proofs.lemmas.Map.Lookups.{CmpEqualImpliesEq, exact_signed}
use Rattle.std.proofs.lemmas.Bool.{true≢false}
use Rattle.river_base.specs.Row.{row_cmp, row_lt, row_total, in_order}
use Rattle.river_base.proofs.Ascending as order

-- lists that compare alike are one
pub exact_lists : {K : Type 0} (R : K → K → Ordering) → CmpEqualImpliesEq R → CmpEqualImpliesEq (slice_cmp R)
exact_lists R exact [] [] h = refl
exact_lists R exact [] (y ∷ ys) h = cc
exact_lists R exact (x ∷ xs) [] h = cc
exact_lists {K} R exact (x ∷ xs) (y ∷ ys) h = step (R x y) refl h (exact_lists R exact xs ys) where
  step : (r : Ordering) → R x y ≡ r → ordering_then r (slice_cmp R xs ys) ≡ Equal → (slice_cmp R xs ys ≡ Equal → xs ≡ ys) → x ∷ xs ≡ y ∷ ys
  step Less e g more = cc
  step Equal e g more = let p : x ≡ y = exact x y e in let q : xs ≡ ys = more g in λ i. p i ∷ q i
  step Greater e g more = cc

-- rows that compare as equal are equal
pub exact_rows : CmpEqualImpliesEq row_cmp
exact_rows = exact_lists int_cmp exact_signed

-- the order of rows is a strict weak order
pub rows_ranked : IsStrictWeakOrder row_lt
rows_ranked = ranks_by row_total (λ x. x)

apart : {K : Type 0} {R : K → K → Ordering} → IsTotalOrder R → CmpEqualImpliesEq R → (x y : K) → is_lt (R x y) ≡ false → is_lt (R y x) ≡ false → x ≡ y
apart {K} {R} o exact x y h g = step (R x y) refl h where
  step : (r : Ordering) → R x y ≡ r → is_lt r ≡ false → x ≡ y
  step Less e l = absurd (true≢false l)
  step Equal e l = exact x y e
  step Greater e l = let back : R y x ≡ Less = o.antisymm y x ∙ ap ordering_reverse e in absurd (true≢false (sym (ap is_lt back) ∙ g))

-- rows of which neither stands before the other are equal
pub apart_rows : (x y : List ℤ) → row_lt x y ≡ false → row_lt y x ≡ false → x ≡ y
apart_rows = apart row_total exact_rows

-- what a sort leaves
pub in_order_from_sort : (xs ys : List (List ℤ)) → IsPermutation xs ys → IsSorted row_cmp ys → ys ≡ in_order xs
in_order_from_sort = order.ascending_from_sort row_lt rows_ranked apart_rows

-- rows in order with the same bag are the same list
pub same_from_sorted : (xs ys : List (List ℤ)) → IsPermutation xs ys → IsSorted row_cmp xs → IsSorted row_cmp ys → xs ≡ ys
same_from_sorted = order.same_from_sorted row_lt rows_ranked apart_rows

-- the order is a function of the bag
pub in_order-IsPermutation : (xs ys : List (List ℤ)) → IsPermutation xs ys → in_order xs ≡ in_order ys
in_order-IsPermutation = order.ascending-IsPermutation row_lt rows_ranked apart_rows

-- the order is ascending
pub in_order_ascends : (xs : List (List ℤ)) → IsSorted row_cmp (in_order xs)
in_order_ascends = order.ascending_ascends row_lt rows_ranked apart_rows

-- and has the same rows
pub in_order_bag : (xs : List (List ℤ)) → IsPermutation xs (in_order xs)
in_order_bag = order.ascending_bag row_lt rows_ranked apart_rows

-- rows in order stay as they are
pub in_order_sorted : (xs : List (List ℤ)) → IsSorted row_cmp xs → in_order xs ≡ xs
in_order_sorted = order.ascending_sorted row_lt rows_ranked apart_rows
