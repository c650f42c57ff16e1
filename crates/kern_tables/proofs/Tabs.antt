-- Tables as tables by keys, and what follows.
use Rattle.std.proofs.Common.{◌≡◌, ℕ, zero, suc, ◌+ℤ◌, ℤ, pos, Bool, true, false, cond, List, [], ◌∷◌, ◌++◌, refl, sym, ap, ◌∙◌, arith, fold, map, take, drop, take-append-drop}
use Rattle.std.specs.Prelude.{flat_map}
use Rattle.std.specs.Int.{w64, int_wrap}
use Rattle.std.specs.declared.cmp.Ordering.{Ordering}
use Rattle.std.specs.declared.cmp.Ordering.TheVariants.{Less, Equal, Greater}
use Rattle.std.specs.Ordering.{int_cmp, ordering_then, is_lt, ordering_reverse}
use Rattle.std.specs.Cmp.{IsStrictWeakOrder}
use Rattle.std.specs.List.Sorted.{IsPermutation}
use Rattle.std.proofs.lemmas.Bool.{true≢false}
use Rattle.std.proofs.lemmas.Int.{int_wrap-add_left, ints}
use Rattle.std.proofs.lemmas.List.Sorted.{ranks_by, IsPermutation-map}
use Rattle.std.proofs.lemmas.Map.Lookups.{CmpEqualImpliesEq, exact_signed}
use Rattle.kern_tables.specs.declared.kind.TableKind.{TableKind}
use Rattle.kern_tables.specs.declared.kind.TableKind.TheVariants.{Sum, Collection, Maximum}
use Rattle.river_base.specs.Bags.{put_in_order}
use Rattle.kern_tables.specs.Keyed.{keyed, put}
use Rattle.std.proofs.lemmas.List.{map-append}
use Rattle.std.proofs.lemmas.List.Sums.{fold-append}
use Rattle.kern_tables.specs.Kept.{kept_of, with_row, added_all, rows_of, kind_of_table}
use Rattle.kern_tables.specs.declared.kept.Aggregate.{Aggregate}
use Rattle.kern_tables.specs.declared.kept.Aggregate.TheVariants.{Sums, Rows, Maxima}
use Rattle.river_base.specs.Number.{wrap}
use Rattle.river_base.specs.Row.{row_eq, row_cmp, row_lt, row_total, in_order}
use Rattle.river_base.proofs.Ascending as order
use Rattle.kern_tables.proofs.KeyedPuts as tables
use Rattle.river_base.proofs.Rows.{exact_rows, in_order-IsPermutation, in_order_bag, in_order_ascends}
use Rattle.kern_tables.specs.declared.ranked.Ranked.{Ranked}
use Rattle.river_base.specs.Bags.{SameBag}
use Rattle.kern_tables.specs.Laws.{TablesAreOfBags, CollectionsAre, TablesKeepAdds}
use Rattle.kern_tables.specs.Entries.{split, splits, best_more, sum_rows, maximum_rows}
use Rattle.kern_tables.specs.Ranks.{rank_total}
use Rattle.kern_tables.specs.Tables.{tab, keys_of, under_key, value_in, ranked_in, add_value, sum_of, rank_cmp, ranks_before, best_of, sum_row, ranked_row}
use Rattle.river_base.proofs.Counts.{permutation_from_bag, bag_from_permutation}
use Rattle.kern_tables.proofs.Keyed.{with_value, grouped_keyed}

-- RANKS

pub exact_ranks : CmpEqualImpliesEq rank_cmp
exact_ranks a b h = step (int_cmp b.weight a.weight) refl h where
  step : (r : Ordering) → int_cmp b.weight a.weight ≡ r → ordering_then r (int_cmp a.value b.value) ≡ Equal → a ≡ b
  step Less e g = cc
  step Equal e g =
      let w : b.weight ≡ a.weight = exact_signed b.weight a.weight e in
      let v : a.value ≡ b.value = exact_signed a.value b.value g in
      λ i. record { weight = sym w i; value = v i }
  step Greater e g = cc

-- ranks are a strict weak order
pub ranked_weakly : IsStrictWeakOrder ranks_before
ranked_weakly = ranks_by rank_total (λ x. x)

-- rows of which neither ranks before the other are equal
pub apart_ranks : (x y : Ranked) → ranks_before x y ≡ false → ranks_before y x ≡ false → x ≡ y
apart_ranks x y h g = step (rank_cmp x y) refl h where
  step : (r : Ordering) → rank_cmp x y ≡ r → is_lt r ≡ false → x ≡ y
  step Less e l = absurd (true≢false l)
  step Equal e l = exact_ranks x y e
  step Greater e l = let back : rank_cmp y x ≡ Less = rank_total.antisymm y x ∙ ap ordering_reverse e in absurd (true≢false (sym (ap is_lt back) ∙ g))

-- SUMS

-- two rows may be added to a sum in either order
pub sums_commute : (v : ℤ) (w u : List ℤ) → add_value (add_value v w) u ≡ add_value (add_value v u) w
sums_commute v w u =
    let a = value_in w in
    let b = value_in u in
    let turn : (v +ℤ a) +ℤ b ≡ (v +ℤ b) +ℤ a = omega (arith, ints) in
    int_wrap-add_left w64 (v +ℤ a) b ∙ ap (int_wrap w64) turn ∙ sym (int_wrap-add_left w64 (v +ℤ b) a)

-- a sum that wraps at each row is the sum that wraps once
pub wrapped_sum : (z : ℤ) (rests : List (List ℤ)) → fold add_value (wrap z) rests ≡ wrap (fold (λ sum rest. sum +ℤ value_in rest) z rests)
wrapped_sum z [] = refl
wrapped_sum z (r ∷ rs) = ap (λ v. fold add_value v rs) (int_wrap-add_left w64 z (value_in r)) ∙ wrapped_sum (z +ℤ value_in r) rs

-- MAXIMA

-- to cut before changes nothing
pub cut_place : {K : Type 0} (lt : K → K → Bool) (n : ℕ) (x : K) (l : List K) → take n (put_in_order lt x (take n l)) ≡ take n (put_in_order lt x l)
cut_place lt zero x l = refl
cut_place lt (suc n) x [] = refl
cut_place lt (suc n) x (y ∷ ys) = step (lt y x) refl (cut_place lt n x ys) where
  shorter : {K : Type 0} (m : ℕ) (z : K) (zs : List K) → take m (z ∷ take m zs) ≡ take m (z ∷ zs)
  shorter zero z zs = refl
  shorter (suc m) z zs = ap (λ l. z ∷ l) (cut m zs)
    where
      cut : {K : Type 0} (m : ℕ) (zs : List K) → take m (take (suc m) zs) ≡ take m zs
      cut zero zs = refl
      cut (suc m) [] = refl
      cut (suc m) (z ∷ zs) = ap (λ l. z ∷ l) (cut m zs)

  step : (b : Bool) → lt y x ≡ b → take n (put_in_order lt x (take n ys)) ≡ take n (put_in_order lt x ys)
      → take (suc n) (put_in_order lt x (y ∷ take n ys)) ≡ take (suc n) (put_in_order lt x (y ∷ ys))
  step true h more =
      ap (λ b. take (suc n) (cond b (y ∷ put_in_order lt x (take n ys)) (x ∷ (y ∷ take n ys)))) h ∙ ap (λ l. y ∷ l) more
      ∙ sym (ap (λ b. take (suc n) (cond b (y ∷ put_in_order lt x ys) (x ∷ (y ∷ ys)))) h)
  step false h more =
      ap (λ b. take (suc n) (cond b (y ∷ put_in_order lt x (take n ys)) (x ∷ (y ∷ take n ys)))) h ∙ ap (λ l. x ∷ l) (shorter n y ys)
      ∙ sym (ap (λ b. take (suc n) (cond b (y ∷ put_in_order lt x ys) (x ∷ (y ∷ ys)))) h)

-- two rows may come to a maximum in either order
pub maxima_commute : (best : ℕ) (v : List Ranked) (w u : List ℤ) → best_more best (best_more best v w) u ≡ best_more best (best_more best v u) w
maxima_commute best v w u =
    let a = ranked_in w in
    let b = ranked_in u in
    cut_place ranks_before best b (put_in_order ranks_before a v)
    ∙ ap (take best) (order.place-place ranks_before ranked_weakly apart_ranks b a v)
    ∙ sym (cut_place ranks_before best a (put_in_order ranks_before b v))

best_from : (best : ℕ) (l : List Ranked) (rests : List (List ℤ))
    → fold (best_more best) (take best l) rests ≡ take best (fold (λ done x. put_in_order ranks_before x done) l (map ranked_in rests))
best_from best l [] = refl
best_from best l (r ∷ rs) =
    ap (λ t. fold (best_more best) t rs) (cut_place ranks_before best (ranked_in r) l) ∙ best_from best (put_in_order ranks_before (ranked_in r) l) rs

abbrev none : List Ranked
none = []

take_nil : (n : ℕ) → take n none ≡ none
take_nil zero = refl
take_nil (suc n) = refl

-- rows that are put one by one are the best of them
pub best_is : (best : ℕ) (rests : List (List ℤ)) → fold (best_more best) [] rests ≡ best_of best rests
best_is best rests = ap (λ l. fold (best_more best) l rests) (sym (take_nil best)) ∙ best_from best [] rests

-- TABLES BY KEYS

-- the sums at each key of these rows
abbrev pub sums : ℕ → List (List ℤ) → List (List ℤ × ℤ)
sums keys adds = keyed row_cmp (pos 0) add_value (splits keys adds)

-- the best rows at each key
abbrev pub maxima : ℕ → ℕ → List (List ℤ) → List (List ℤ × List Ranked)
maxima best keys adds = keyed row_cmp [] (best_more best) (splits keys adds)

map_with : (keys : ℕ) (adds ks : List (List ℤ))
    → sum_rows (map (with_value (pos 0) add_value keys adds) ks) ≡ map (λ key. sum_row key (sum_of (under_key keys key adds))) ks
map_with keys adds [] = refl
map_with keys adds (k ∷ ks) = ap (λ l. sum_row k (sum_of (under_key keys k adds)) ∷ l) (map_with keys adds ks)

-- the rows of the sums are the table
pub sums_keyed : (keys : ℕ) (adds : List (List ℤ)) → sum_rows (sums keys adds) ≡ tab (Sum keys) adds
sums_keyed keys adds = ap sum_rows (sym (grouped_keyed (pos 0) add_value sums_commute keys adds)) ∙ map_with keys adds (keys_of keys adds)

flat_with : (best keys : ℕ) (adds ks : List (List ℤ))
    → maximum_rows (map (with_value [] (best_more best) keys adds) ks) ≡ flat_map (λ key. map (ranked_row key) (best_of best (under_key keys key adds))) ks
flat_with best keys adds [] = refl
flat_with best keys adds (k ∷ ks) = λ i. map (ranked_row k) (best_is best (under_key keys k adds) i) ++ flat_with best keys adds ks i

-- and so are those of the maxima
pub maxima_keyed : (best keys : ℕ) (adds : List (List ℤ)) → maximum_rows (maxima best keys adds) ≡ tab (Maximum best keys) adds
maxima_keyed best keys adds =
    ap maximum_rows (sym (grouped_keyed [] (best_more best) (maxima_commute best) keys adds)) ∙ flat_with best keys adds (keys_of keys adds)

-- BAGS

tab-IsPermutation : (kind : TableKind) (xs ys : List (List ℤ)) → IsPermutation xs ys → tab kind xs ≡ tab kind ys
tab-IsPermutation (Sum keys) xs ys h =
    sym (sums_keyed keys xs)
    ∙ ap sum_rows (tables.keyed-IsPermutation row_cmp row_total exact_rows (pos 0) add_value sums_commute (splits keys xs) (splits keys ys)
    (IsPermutation-map (split keys) xs ys h))
    ∙ sums_keyed keys ys
tab-IsPermutation (Collection keys) xs ys h = in_order-IsPermutation xs ys h
tab-IsPermutation (Maximum best keys) xs ys h =
    sym (maxima_keyed best keys xs)
    ∙ ap maximum_rows (tables.keyed-IsPermutation row_cmp row_total exact_rows [] (best_more best) (maxima_commute best) (splits keys xs) (splits keys ys)
    (IsPermutation-map (split keys) xs ys h))
    ∙ maxima_keyed best keys ys

-- what a table keeps is a function of the bag of its rows
pub tables_are_of_bags : TablesAreOfBags
tables_are_of_bags kind xs ys h = tab-IsPermutation kind xs ys (permutation_from_bag xs ys h)

-- a collection has the rows in order
pub collections_are : CollectionsAre
collections_are keys adds = ((λ row. sym (bag_from_permutation adds (in_order adds) (in_order_bag adds) (row_eq row))), in_order_ascends adds)

-- WHAT A TABLE HOLDS

-- one row more in order
pub in_order_more : (rows : List (List ℤ)) (row : List ℤ) → in_order (rows ++ row ∷ []) ≡ put_in_order row_lt row (in_order rows)
in_order_more rows row = fold-append (λ done x. put_in_order row_lt x done) [] rows (row ∷ [])

-- one more row
pub kept_more : (kind : TableKind) (adds : List (List ℤ)) (row : List ℤ) → kept_of kind (adds ++ row ∷ []) ≡ with_row (kept_of kind adds) row
kept_more (Sum keys) adds row =
    ap (Sums keys) (ap (keyed row_cmp (pos 0) add_value) (map-append (split keys) adds (row ∷ []))
    ∙ fold-append (put row_cmp (pos 0) add_value) [] (splits keys adds) (split keys row ∷ []))
kept_more (Collection keys) adds row = ap (Rows keys) (in_order_more adds row)
kept_more (Maximum best keys) adds row =
    ap (Maxima best keys)
    (ap (keyed row_cmp [] (best_more best)) (map-append (split keys) adds (row ∷ []))
    ∙ fold-append (put row_cmp [] (best_more best)) [] (splits keys adds) (split keys row ∷ []))

-- its rows are the table's
pub kept_rows : (kind : TableKind) (adds : List (List ℤ)) → rows_of (kept_of kind adds) ≡ tab kind adds
kept_rows (Sum keys) adds = sums_keyed keys adds
kept_rows (Collection keys) adds = refl
kept_rows (Maximum best keys) adds = maxima_keyed best keys adds

-- it is a function of the bag
pub kept_of_bag : (kind : TableKind) (xs ys : List (List ℤ)) → SameBag xs ys → kept_of kind xs ≡ kept_of kind ys
kept_of_bag (Sum keys) xs ys h =
    ap (Sums keys) (tables.keyed-IsPermutation row_cmp row_total exact_rows (pos 0) add_value sums_commute (splits keys xs) (splits keys ys)
    (IsPermutation-map (split keys) xs ys (permutation_from_bag xs ys h)))
kept_of_bag (Collection keys) xs ys h = ap (Rows keys) (in_order-IsPermutation xs ys (permutation_from_bag xs ys h))
kept_of_bag (Maximum best keys) xs ys h =
    ap (Maxima best keys)
    (tables.keyed-IsPermutation row_cmp row_total exact_rows [] (best_more best) (maxima_commute best) (splits keys xs) (splits keys ys)
    (IsPermutation-map (split keys) xs ys (permutation_from_bag xs ys h)))

-- the kind stays
pub kept_kind : (kind : TableKind) (adds : List (List ℤ)) → kind_of_table (kept_of kind adds) ≡ kind
kept_kind (Sum keys) adds = refl
kept_kind (Collection keys) adds = refl
kept_kind (Maximum best keys) adds = refl

-- adding a row keeps the kind
pub added_kind : (t : Aggregate) (row : List ℤ) → kind_of_table (with_row t row) ≡ kind_of_table t
added_kind (Sums keys es) row = refl
added_kind (Rows keys rows) row = refl
added_kind (Maxima best keys es) row = refl

-- a table keeps what its rows make of it
pub tables_keep_adds : TablesKeepAdds
tables_keep_adds kind = record { rows = kept_rows kind; more = kept_more kind; of_bag = kept_of_bag kind; kind_is = kept_kind kind }

-- one more at the end
pub added_more : (t : Aggregate) (rows : List (List ℤ)) (row : List ℤ) → added_all t (rows ++ row ∷ []) ≡ with_row (added_all t rows) row
added_more t rows row = fold-append with_row t rows (row ∷ [])

-- the first rows, and then the others
pub added_in_two : (t u : Aggregate) (n : ℕ) (rows : List (List ℤ)) → u ≡ added_all t (take n rows) → added_all u (drop n rows) ≡ added_all t rows
added_in_two t u n rows e = ap (λ (k : Aggregate). added_all k (drop n rows)) e
    ∙ (sym (fold-append with_row t (take n rows) (drop n rows)) ∙ ap (added_all t) (take-append-drop n rows))

-- adding rows keeps the kind
pub added_all_kind : (t : Aggregate) (rows : List (List ℤ)) → kind_of_table (added_all t rows) ≡ kind_of_table t
added_all_kind t [] = refl
added_all_kind t (row ∷ rows) = added_all_kind (with_row t row) rows ∙ added_kind t row
