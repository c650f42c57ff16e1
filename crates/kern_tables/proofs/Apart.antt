-- Rows that stand behind others, by their keys.
use Rattle.std.proofs.Common.{◌≡◌, ℕ, ℤ, pos, Bool, true, false, cond, List, [], ◌∷◌, ◌++◌, refl, sym, ap, ◌∙◌, fold, map, take, drop}
use Rattle.std.specs.Prelude.{All}
use Rattle.std.specs.declared.cmp.Ordering.TheVariants.{Less, Greater}
use Rattle.std.specs.Ordering.{ordering_reverse}
use Rattle.std.specs.List.{AllByRecursion}
use Rattle.std.specs.List.Sorted.{IsPermutation}
use Rattle.std.proofs.lemmas.List.{map-append, append-nil}
use Rattle.std.proofs.lemmas.List.Concat.{flat_map-append}
use Rattle.std.proofs.lemmas.List.Elements.{All-head, All-tail, All-cons, All-nil}
use Rattle.std.proofs.lemmas.List.Sorted.{All-permutation, IsPermutation-append}
use Rattle.std.proofs.lemmas.List.Sums.{fold-append}
use Rattle.river_base.specs.Bags.{put_in_order}
use Rattle.kern_tables.specs.Keyed.{keyed}
use Rattle.river_base.specs.Row.{row_cmp, row_lt, row_total, in_order}
use Rattle.river_base.proofs.Ascending as order
use Rattle.river_base.proofs.Rows.{rows_ranked, apart_rows, in_order_bag, in_order-IsPermutation}
use Rattle.kern_tables.specs.declared.kind.TableKind.TheVariants.{Sum, Collection, Maximum}
use Rattle.kern_tables.specs.declared.ranked.Ranked.{Ranked}
use Rattle.kern_tables.specs.Entries.{split, splits, best_more, sum_rows, maximum_rows}
use Rattle.kern_tables.specs.Pieces.{TablesStandInOrder}
use Rattle.kern_tables.specs.Tables.{add_value, sum_row, ranked_row}
use Rattle.kern_tables.proofs.Again.{IsBehind, add, passes, put_keeps}
use Rattle.kern_tables.proofs.Tabs.{sums, maxima, sums_keyed, maxima_keyed}

-- BY KEYS

module _ {V : Type 0} (start : V) (merge : V → List ℤ → V) where
  put_behind : (k w : List ℤ) (es fs : List (List ℤ × V)) → IsBehind k es → add start merge (es ++ fs) (k, w) ≡ es ++ add start merge fs (k, w)
  put_behind k w [] fs b = refl
  put_behind k w (e ∷ es) fs b = passes start merge k w e (es ++ fs) b.0 ∙ ap (λ l. e ∷ l) (put_behind k w es fs b.1)

  all_put_behind : (keys : ℕ) (ys : List (List ℤ)) (es fs : List (List ℤ × V)) → All (λ y. IsBehind (take keys y) es) ys
      → fold (add start merge) (es ++ fs) (splits keys ys) ≡ es ++ fold (add start merge) fs (splits keys ys)
  all_put_behind keys [] es fs b = refl
  all_put_behind keys (y ∷ ys) es fs b =
      let P : List ℤ → Type 0 = λ y. IsBehind (take keys y) es in
      ap (λ l. fold (add start merge) l (splits keys ys)) (put_behind (take keys y) (drop keys y) es fs (All-head P y ys b))
      ∙ all_put_behind keys ys es (add start merge fs (split keys y)) (All-tail P y ys b)

  -- a key stands behind what was added with keys that it stands behind
  behind_keys : (keys : ℕ) (k : List ℤ) (xs : List (List ℤ)) (es : List (List ℤ × V)) → All (λ x. row_cmp (take keys x) k ≡ Less) xs → IsBehind k es
      → IsBehind k (fold (add start merge) es (splits keys xs))
  behind_keys keys k [] es a b = b
  behind_keys keys k (x ∷ xs) es a b =
      let P : List ℤ → Type 0 = λ x. row_cmp (take keys x) k ≡ Less in
      behind_keys keys k xs (add start merge es (split keys x)) (All-tail P x xs a)
      (put_keeps start merge (λ key v. row_cmp k key ≡ Greater) (take keys x) (drop keys x) es (λ key v u p. p)
      (row_total.antisymm k (take keys x) ∙ ap ordering_reverse (All-head P x xs a)) b)

  all_behind_keys : (keys : ℕ) (xs ys : List (List ℤ)) → All (λ y. All (λ x. row_cmp (take keys x) (take keys y) ≡ Less) xs) ys
      → All (λ y. IsBehind (take keys y) (keyed row_cmp start merge (splits keys xs))) ys
  all_behind_keys keys xs [] a = All-nil (λ y. IsBehind (take keys y) (keyed row_cmp start merge (splits keys xs)))
  all_behind_keys keys xs (y ∷ ys) a =
      let P : List ℤ → Type 0 = λ y. All (λ x. row_cmp (take keys x) (take keys y) ≡ Less) xs in
      All-cons (λ y. IsBehind (take keys y) (keyed row_cmp start merge (splits keys xs))) y ys
      (behind_keys keys (take keys y) xs [] (All-head P y ys a) tt) (all_behind_keys keys xs ys (All-tail P y ys a))

  keyed_in_order : (keys : ℕ) (xs ys : List (List ℤ)) → All (λ y. All (λ x. row_cmp (take keys x) (take keys y) ≡ Less) xs) ys
      → keyed row_cmp start merge (splits keys (xs ++ ys)) ≡ keyed row_cmp start merge (splits keys xs) ++ keyed row_cmp start merge (splits keys ys)
  keyed_in_order keys xs ys a =
      let es = keyed row_cmp start merge (splits keys xs) in
      ap (keyed row_cmp start merge) (map-append (split keys) xs ys)
      ∙ fold-append (add start merge) [] (splits keys xs) (splits keys ys)
      ∙ ap (λ l. fold (add start merge) l (splits keys ys)) (sym (append-nil es))
      ∙ all_put_behind keys ys es [] (all_behind_keys keys xs ys a)

-- WHOLE ROWS

-- no row is below one before it
abbrev Rise : List (List ℤ) → Type 0
Rise [] = Unit {0}
Rise (x ∷ xs) = AllByRecursion (λ y. row_lt y x ≡ false) xs × Rise xs

first_stays : (x : List ℤ) (xs : List (List ℤ)) → AllByRecursion (λ y. row_lt y x ≡ false) xs → put_in_order row_lt x xs ≡ x ∷ xs
first_stays x [] a = refl
first_stays x (y ∷ ys) a = ap (λ b. cond b (y ∷ put_in_order row_lt x ys) (x ∷ (y ∷ ys))) a.0

risen : (xs : List (List ℤ)) → Rise xs → in_order xs ≡ xs
risen [] r = refl
risen (x ∷ xs) r = order.ascending-cons row_lt rows_ranked apart_rows x xs ∙ ap (put_in_order row_lt x) (risen xs r.1) ∙ first_stays x xs r.0

all_placed : (P : List ℤ → Type 0) (x : List ℤ) (zs : List (List ℤ)) → P x → AllByRecursion P zs → AllByRecursion P (put_in_order row_lt x zs)
all_placed P x [] p a = (p, tt)
all_placed P x (z ∷ zs) p a = step (row_lt z x) (all_placed P x zs p a.1) where
  step : (b : Bool) → AllByRecursion P (put_in_order row_lt x zs) → AllByRecursion P (cond b (z ∷ put_in_order row_lt x zs) (x ∷ (z ∷ zs)))
  step true more = (a.0, more)
  step false more = (p, a)

farther : (x z : List ℤ) (zs : List (List ℤ)) → row_lt z x ≡ false → AllByRecursion (λ w. row_lt w z ≡ false) zs → AllByRecursion (λ w. row_lt w x ≡ false) zs
farther x z [] h a = tt
farther x z (w ∷ ws) h a = (rows_ranked.chain w z x a.0 h, farther x z ws h a.1)

place_rise : (x : List ℤ) (zs : List (List ℤ)) → Rise zs → Rise (put_in_order row_lt x zs)
place_rise x [] r = (tt, tt)
place_rise x (z ∷ zs) r = step (row_lt z x) refl (place_rise x zs r.1) where
  step : (b : Bool) → row_lt z x ≡ b → Rise (put_in_order row_lt x zs) → Rise (cond b (z ∷ put_in_order row_lt x zs) (x ∷ (z ∷ zs)))
  step true h more = (all_placed (λ w. row_lt w z ≡ false) x zs (rows_ranked.one_way z x h) r.0, more)
  step false h more = ((h, farther x z zs h r.0), r)

ordered_rise : (done xs : List (List ℤ)) → Rise done → Rise (fold (λ done x. put_in_order row_lt x done) done xs)
ordered_rise done [] r = r
ordered_rise done (x ∷ xs) r = ordered_rise (put_in_order row_lt x done) xs (place_rise x done r)

by_recursion : (P : List ℤ → Type 0) (xs : List (List ℤ)) → All P xs → AllByRecursion P xs
by_recursion P [] a = tt
by_recursion P (x ∷ xs) a = (All-head P x xs a, by_recursion P xs (All-tail P x xs a))

both_by_recursion : (P : List ℤ → Type 0) (xs ys : List (List ℤ)) → AllByRecursion P xs → AllByRecursion P ys → AllByRecursion P (xs ++ ys)
both_by_recursion P [] ys a b = b
both_by_recursion P (x ∷ xs) ys a b = (a.0, both_by_recursion P xs ys a.1 b)

both_rise : (xs ys : List (List ℤ)) → Rise xs → Rise ys → All (λ x. All (λ y. row_lt y x ≡ false) ys) xs → Rise (xs ++ ys)
both_rise [] ys r s a = s
both_rise (x ∷ xs) ys r s a =
    let P : List ℤ → Type 0 = λ x. All (λ y. row_lt y x ≡ false) ys in (
      both_by_recursion (λ y. row_lt y x ≡ false) xs ys r.0 (by_recursion (λ y. row_lt y x ≡ false) ys (All-head P x xs a)),
      both_rise xs ys r.1 s (All-tail P x xs a),
    )

-- each of the first with each of the second, and the other way round
head_of_each : (R : List ℤ → List ℤ → Type 0) (x : List ℤ) (xs ys : List (List ℤ)) → All (λ y. All (λ x. R x y) (x ∷ xs)) ys → All (λ y. R x y) ys
head_of_each R x xs [] a = All-nil (λ y. R x y)
head_of_each R x xs (y ∷ ys) a =
    let P : List ℤ → Type 0 = λ y. All (λ x. R x y) (x ∷ xs) in
    All-cons (λ y. R x y) y ys (All-head (λ x. R x y) x xs (All-head P y ys a)) (head_of_each R x xs ys (All-tail P y ys a))

tail_of_each : (R : List ℤ → List ℤ → Type 0) (x : List ℤ) (xs ys : List (List ℤ)) → All (λ y. All (λ x. R x y) (x ∷ xs)) ys → All (λ y. All (λ x. R x y) xs) ys
tail_of_each R x xs [] a = All-nil (λ y. All (λ x. R x y) xs)
tail_of_each R x xs (y ∷ ys) a =
    let P : List ℤ → Type 0 = λ y. All (λ x. R x y) (x ∷ xs) in
    All-cons (λ y. All (λ x. R x y) xs) y ys (All-tail (λ x. R x y) x xs (All-head P y ys a)) (tail_of_each R x xs ys (All-tail P y ys a))

turned : (R : List ℤ → List ℤ → Type 0) (xs ys : List (List ℤ)) → All (λ y. All (λ x. R x y) xs) ys → All (λ x. All (λ y. R x y) ys) xs
turned R [] ys a = All-nil (λ x. All (λ y. R x y) ys)
turned R (x ∷ xs) ys a = All-cons (λ x. All (λ y. R x y) ys) x xs (head_of_each R x xs ys a) (turned R xs ys (tail_of_each R x xs ys a))

-- what holds of each with each holds of their rows in order
each_in_order : (R : List ℤ → List ℤ → Type 0) (xs ys : List (List ℤ)) → All (λ x. All (λ y. R x y) ys) xs
    → All (λ x. All (λ y. R x y) (in_order ys)) (in_order xs)
each_in_order R xs ys a = All-permutation (λ x. All (λ y. R x y) (in_order ys)) xs (in_order xs) (in_order_bag xs) (inner xs a) where
  inner : (xs : List (List ℤ)) → All (λ x. All (λ y. R x y) ys) xs → All (λ x. All (λ y. R x y) (in_order ys)) xs
  inner [] a = All-nil (λ x. All (λ y. R x y) (in_order ys))
  inner (x ∷ xs) a =
      let P : List ℤ → Type 0 = λ x. All (λ y. R x y) ys in
      All-cons (λ x. All (λ y. R x y) (in_order ys)) x xs (All-permutation (λ y. R x y) ys (in_order ys) (in_order_bag ys) (All-head P x xs a))
      (inner xs (All-tail P x xs a))

rows_in_order : (xs ys : List (List ℤ)) → All (λ y. All (λ x. row_lt y x ≡ false) xs) ys → in_order (xs ++ ys) ≡ in_order xs ++ in_order ys
rows_in_order xs ys a =
    let bag : IsPermutation (xs ++ ys) (in_order xs ++ in_order ys) = IsPermutation-append xs (in_order xs) ys (in_order ys) (in_order_bag xs) (in_order_bag ys) in
    in_order-IsPermutation (xs ++ ys) (in_order xs ++ in_order ys) bag
    ∙ risen (in_order xs ++ in_order ys)
    (both_rise (in_order xs) (in_order ys) (ordered_rise [] xs tt) (ordered_rise [] ys tt)
    (each_in_order (λ x y. row_lt y x ≡ false) xs ys (turned (λ x y. row_lt y x ≡ false) xs ys a)))

-- TABLES

-- rows behind others make a table that is behind theirs
pub tables_stand_in_order : TablesStandInOrder
tables_stand_in_order (Sum keys) xs ys a =
    sym (sums_keyed keys (xs ++ ys)) ∙ ap sum_rows (keyed_in_order (pos 0) add_value keys xs ys a)
    ∙ map-append (λ (e : List ℤ × ℤ). sum_row e.0 e.1) (sums keys xs) (sums keys ys)
    ∙ (λ i. sums_keyed keys xs i ++ sums_keyed keys ys i)
tables_stand_in_order (Collection keys) xs ys a = rows_in_order xs ys a
tables_stand_in_order (Maximum best keys) xs ys a =
    sym (maxima_keyed best keys (xs ++ ys)) ∙ ap maximum_rows (keyed_in_order [] (best_more best) keys xs ys a)
    ∙ flat_map-append (λ (e : List ℤ × List Ranked). map (ranked_row e.0) e.1) (maxima best keys xs) (maxima best keys ys)
    ∙ (λ i. maxima_keyed best keys xs i ++ maxima_keyed best keys ys i)
