-- What is made of the rows of each key is what a table by keys has.
use Rattle.std.proofs.Common.{◌≡◌, ℕ, ℤ, Bool, true, false, cond, List, [], ◌∷◌, ◌++◌, refl, sym, ap, ◌∙◌, subst, fold, map, filter, take, drop, append_assoc}
use Rattle.std.specs.Prelude.{All}
use Rattle.std.specs.declared.cmp.Ordering.{Ordering}
use Rattle.std.specs.declared.cmp.Ordering.TheVariants.{Less, Equal, Greater}
use Rattle.std.specs.Ordering.{match_ordering, is_lt, is_eq, ordering_reverse}
use Rattle.std.specs.List.{AllByRecursion}
use Rattle.std.specs.List.Sorted.{IsStrictlySortedBy}
use Rattle.std.specs.Map as map
use Rattle.std.proofs.lemmas.Bool.{true≢false}
use Rattle.std.proofs.lemmas.List.{map-append, append-nil}
use Rattle.std.proofs.lemmas.List.Elements.{filter-append, All-head, All-tail, All-cons, All-nil}
use Rattle.std.proofs.lemmas.List.Sums.{fold-append}
use Rattle.std.proofs.lemmas.List.Sorted.{IsPermutation-sym, All-permutation}
use Rattle.std.proofs.lemmas.Map.Keys.{sorted_head, sorted_tail}
use Rattle.river_base.specs.Bags.{put_in_order}
use Rattle.kern_tables.specs.Keyed.{put, keyed}
use Rattle.river_base.specs.Row.{row_eq, row_cmp, row_lt, row_total, row_ties, in_order}
use Rattle.river_base.proofs.Counts.{same_row, row_itself}
use Rattle.river_base.proofs.Rows.{exact_rows, in_order_bag}
use Rattle.kern_tables.proofs.RisingKeys as rising
use Rattle.kern_tables.specs.Entries.{split, splits}
use Rattle.kern_tables.specs.Tables.{once_after, each_row_once, keys_of, under_key, has_key}

-- THE ORDER OF KEYS

pub apart_less : (a b : List ℤ) → row_cmp a b ≡ Less → row_eq a b ≡ false
apart_less a b h = row_ties a b ∙ ap is_eq h

pub apart_greater : (a b : List ℤ) → row_cmp a b ≡ Greater → row_eq a b ≡ false
apart_greater a b h = row_ties a b ∙ ap is_eq h

turned : (a b : List ℤ) (r : Ordering) → row_cmp a b ≡ r → row_cmp b a ≡ ordering_reverse r
turned a b r h = row_total.antisymm b a ∙ ap ordering_reverse h

-- a key that is put among keys in order
abbrev pub add_key : List ℤ → List (List ℤ) → List (List ℤ)
add_key k [] = k ∷ []
add_key k (e ∷ es) = match_ordering (row_cmp k e) (k ∷ (e ∷ es)) (e ∷ es) (e ∷ add_key k es)

skip : (k x : List ℤ) (xs : List (List ℤ)) → row_eq k x ≡ true → once_after k (x ∷ xs) ≡ once_after k xs
skip k x xs h = ap (λ b. cond b (once_after k xs) (x ∷ once_after x xs)) h

keep : (k x : List ℤ) (xs : List (List ℤ)) → row_eq k x ≡ false → once_after k (x ∷ xs) ≡ x ∷ once_after x xs
keep k x xs h = ap (λ b. cond b (once_after k xs) (x ∷ once_after x xs)) h

past : (k z : List ℤ) (zs : List (List ℤ)) → row_cmp z k ≡ Less → put_in_order row_lt k (z ∷ zs) ≡ z ∷ put_in_order row_lt k zs
past k z zs h = ap (λ r. cond (is_lt r) (z ∷ put_in_order row_lt k zs) (k ∷ (z ∷ zs))) h

here : (k z : List ℤ) (zs : List (List ℤ)) → row_lt z k ≡ false → put_in_order row_lt k (z ∷ zs) ≡ k ∷ (z ∷ zs)
here k z zs h = ap (λ b. cond b (z ∷ put_in_order row_lt k zs) (k ∷ (z ∷ zs))) h

at_less : (k e : List ℤ) (es : List (List ℤ)) → row_cmp k e ≡ Less → add_key k (e ∷ es) ≡ k ∷ (e ∷ es)
at_less k e es h = ap (λ r. match_ordering r (k ∷ (e ∷ es)) (e ∷ es) (e ∷ add_key k es)) h

at_equal : (k e : List ℤ) (es : List (List ℤ)) → row_cmp k e ≡ Equal → add_key k (e ∷ es) ≡ e ∷ es
at_equal k e es h = ap (λ r. match_ordering r (k ∷ (e ∷ es)) (e ∷ es) (e ∷ add_key k es)) h

at_greater : (k e : List ℤ) (es : List (List ℤ)) → row_cmp k e ≡ Greater → add_key k (e ∷ es) ≡ e ∷ add_key k es
at_greater k e es h = ap (λ r. match_ordering r (k ∷ (e ∷ es)) (e ∷ es) (e ∷ add_key k es)) h

-- k before z, which is not below it
front : (k z : List ℤ) (zs : List (List ℤ)) (r : Ordering) → row_cmp k z ≡ r → is_lt (ordering_reverse r) ≡ false
    → k ∷ once_after k (z ∷ zs) ≡ add_key k (z ∷ once_after z zs)
front k z zs Less h g = ap (λ l. k ∷ l) (keep k z zs (apart_less k z h)) ∙ sym (at_less k z (once_after z zs) h)
front k z zs Equal h g =
    let e : k ≡ z = exact_rows k z h in
    ap (λ l. k ∷ l) (skip k z zs (row_ties k z ∙ ap is_eq h)) ∙ (λ i. e i ∷ once_after (e i) zs) ∙ sym (at_equal k z (once_after z zs) h)
front k z zs Greater h g = absurd (true≢false g)

placed_after : (y k : List ℤ) (ys : List (List ℤ)) → row_cmp y k ≡ Less → once_after y (put_in_order row_lt k ys) ≡ add_key k (once_after y ys)
placed_after y k [] h = keep y k [] (apart_less y k h)
placed_after y k (z ∷ zs) h = step (row_cmp k z) refl (row_eq y z) refl (λ e. placed_after y k zs h) (placed_after z k zs) where
  step : (r : Ordering) → row_cmp k z ≡ r → (b : Bool) → row_eq y z ≡ b
      → (row_eq y z ≡ true → once_after y (put_in_order row_lt k zs) ≡ add_key k (once_after y zs))
      → (row_cmp z k ≡ Less → once_after z (put_in_order row_lt k zs) ≡ add_key k (once_after z zs))
      → once_after y (put_in_order row_lt k (z ∷ zs)) ≡ add_key k (once_after y (z ∷ zs))
  step Greater g true q same other =
      let l : row_cmp z k ≡ Less = turned k z Greater g in
      ap (once_after y) (past k z zs l) ∙ skip y z (put_in_order row_lt k zs) q ∙ same q ∙ ap (add_key k) (sym (skip y z zs q))
  step Greater g false q same other =
      let l : row_cmp z k ≡ Less = turned k z Greater g in
      ap (once_after y) (past k z zs l) ∙ keep y z (put_in_order row_lt k zs) q ∙ ap (λ t. z ∷ t) (other l) ∙ sym (at_greater k z (once_after z zs) g)
      ∙ ap (add_key k) (sym (keep y z zs q))
  step Less g b q same other = before Less g refl
    where
      before : (r : Ordering) → row_cmp k z ≡ r → is_lt (ordering_reverse r) ≡ false
          → once_after y (put_in_order row_lt k (z ∷ zs)) ≡ add_key k (once_after y (z ∷ zs))
      before r g' l =
          let apart : row_eq y z ≡ false = apart_less y z (row_total.trans y k z h g) in
          ap (once_after y) (here k z zs (ap is_lt (turned k z r g') ∙ l)) ∙ keep y k (z ∷ zs) (apart_less y k h) ∙ front k z zs r g' l
          ∙ ap (add_key k) (sym (keep y z zs apart))
  step Equal g b q same other =
      let e : k ≡ z = exact_rows k z g in
      let apart : row_eq y z ≡ false = apart_less y z (subst (λ u. row_cmp y u ≡ Less) e h) in
      ap (once_after y) (here k z zs (ap is_lt (turned k z Equal g))) ∙ keep y k (z ∷ zs) (apart_less y k h) ∙ front k z zs Equal g refl
      ∙ ap (add_key k) (sym (keep y z zs apart))

-- one more key among those that occur
pub placed_once : (k : List ℤ) (ks : List (List ℤ)) → each_row_once (put_in_order row_lt k ks) ≡ add_key k (each_row_once ks)
placed_once k [] = refl
placed_once k (z ∷ zs) = step (row_cmp k z) refl where
  step : (r : Ordering) → row_cmp k z ≡ r → each_row_once (put_in_order row_lt k (z ∷ zs)) ≡ add_key k (each_row_once (z ∷ zs))
  step Less g = ap each_row_once (here k z zs (ap is_lt (turned k z Less g))) ∙ front k z zs Less g refl
  step Equal g = ap each_row_once (here k z zs (ap is_lt (turned k z Equal g))) ∙ front k z zs Equal g refl
  step Greater g =
      ap each_row_once (past k z zs (turned k z Greater g)) ∙ ap (λ t. z ∷ t) (placed_after z k zs (turned k z Greater g))
      ∙ sym (at_greater k z (once_after z zs) g)

-- what holds of each key that occurs holds of the key of each row
all_after : (P : List ℤ → Type 0) (k : List ℤ) (xs : List (List ℤ)) → P k → AllByRecursion P (once_after k xs) → All P xs
all_after P k [] p a = All-nil P
all_after P k (x ∷ xs) p a = step (row_eq k x) refl (all_after P k xs p) (all_after P x xs) where
  step : (b : Bool) → row_eq k x ≡ b → (AllByRecursion P (once_after k xs) → All P xs) → (P x → AllByRecursion P (once_after x xs) → All P xs) → All P (x ∷ xs)
  step true h same other = All-cons P x xs (subst P (same_row k x h) p) (same (subst (AllByRecursion P) (skip k x xs h) a))
  step false h same other = let b : AllByRecursion P (x ∷ once_after x xs) = subst (AllByRecursion P) (keep k x xs h) a in All-cons P x xs b.0 (other b.0 b.1)

all_once : (P : List ℤ → Type 0) (xs : List (List ℤ)) → AllByRecursion P (each_row_once xs) → All P xs
all_once P [] a = All-nil P
all_once P (x ∷ xs) a = All-cons P x xs a.0 (all_after P x xs a.0 a.1)

pub all_keys : (P : List ℤ → Type 0) (keys : ℕ) (adds : List (List ℤ)) → AllByRecursion P (keys_of keys adds) → All P (map (λ row. take keys row) adds)
all_keys P keys adds a =
    let ks = map (λ row. take keys row) adds in
    All-permutation P (in_order ks) ks (IsPermutation-sym ks (in_order ks) (in_order_bag ks)) (all_once P (in_order ks) a)

-- TABLES

keys_more : (keys : ℕ) (done : List (List ℤ)) (x : List ℤ) → keys_of keys (done ++ x ∷ []) ≡ add_key (take keys x) (keys_of keys done)
keys_more keys done x =
    ap (λ l. each_row_once (in_order l)) (map-append (λ row. take keys row) done (x ∷ []))
    ∙ ap each_row_once (fold-append (λ kept k. put_in_order row_lt k kept) [] (map (λ row. take keys row) done) (take keys x ∷ []))
    ∙ placed_once (take keys x) (in_order (map (λ row. take keys row) done))

under_more : (keys : ℕ) (key : List ℤ) (done : List (List ℤ)) (x : List ℤ)
    → under_key keys key (done ++ x ∷ []) ≡ under_key keys key done ++ map (λ row. drop keys row) (cond (has_key keys key x) (x ∷ []) [])
under_more keys key done x =
    ap (map (λ row. drop keys row)) (filter-append (has_key keys key) done (x ∷ []))
    ∙ map-append (λ row. drop keys row) (filter (has_key keys key) done) (cond (has_key keys key x) (x ∷ []) [])

none_under : (keys : ℕ) (key : List ℤ) (adds : List (List ℤ)) → All (λ k. row_eq key k ≡ false) (map (λ row. take keys row) adds) → under_key keys key adds ≡ []
none_under keys key [] a = refl
none_under keys key (x ∷ xs) a =
    let P : List ℤ → Type 0 = λ k. row_eq key k ≡ false in
    let h : row_eq (take keys x) key ≡ false = flip (All-head P (take keys x) (map (λ row. take keys row) xs) a) in
    ap (λ b. map (λ row. drop keys row) (cond b (x ∷ filter (has_key keys key) xs) (filter (has_key keys key) xs))) h
    ∙ none_under keys key xs (All-tail P (take keys x) (map (λ row. take keys row) xs) a)
  where
    flip : row_eq key (take keys x) ≡ false → row_eq (take keys x) key ≡ false
    flip h = step (row_eq (take keys x) key) refl where
      step : (b : Bool) → row_eq (take keys x) key ≡ b → row_eq (take keys x) key ≡ false
      step true g = absurd (true≢false (sym (row_itself key) ∙ ap (row_eq key) (sym (same_row (take keys x) key g)) ∙ h))
      step false g = g

module _ {V : Type 0} (start : V) (merge : V → List ℤ → V) where
  -- what is merged under a key
  abbrev pub value_at : ℕ → List (List ℤ) → List ℤ → V
  value_at keys adds key = fold merge start (under_key keys key adds)

  -- a key with its value
  abbrev pub with_value : ℕ → List (List ℤ) → List ℤ → List ℤ × V
  with_value keys adds key = (key, value_at keys adds key)

  -- each key that occurs, and what is merged under it
  abbrev pub grouped : ℕ → List (List ℤ) → List (List ℤ × V)
  grouped keys adds = map (with_value keys adds) (keys_of keys adds)

  value_here : (keys : ℕ) (done : List (List ℤ)) (x key : List ℤ) → row_eq (take keys x) key ≡ true
      → value_at keys (done ++ x ∷ []) key ≡ merge (value_at keys done key) (drop keys x)
  value_here keys done x key h =
      ap (fold merge start) (under_more keys key done x ∙ ap (λ b. under_key keys key done ++ map (λ row. drop keys row) (cond b (x ∷ []) [])) h)
      ∙ fold-append merge start (under_key keys key done) (drop keys x ∷ [])

  value_there : (keys : ℕ) (done : List (List ℤ)) (x key : List ℤ) → row_eq (take keys x) key ≡ false
      → value_at keys (done ++ x ∷ []) key ≡ value_at keys done key
  value_there keys done x key h =
      ap (fold merge start) (under_more keys key done x ∙ ap (λ b. under_key keys key done ++ map (λ row. drop keys row) (cond b (x ∷ []) [])) h)
      ∙ fold-append merge start (under_key keys key done) []

  -- keys to which the new one is not equal keep their values
  others : (keys : ℕ) (done : List (List ℤ)) (x : List ℤ) (ks : List (List ℤ)) → AllByRecursion (λ e. row_eq (take keys x) e ≡ false) ks
      → map (with_value keys (done ++ x ∷ [])) ks ≡ map (with_value keys done) ks
  others keys done x [] a = refl
  others keys done x (e ∷ es) a = λ i. (e, value_there keys done x e a.0 i) ∷ others keys done x es a.1 i

  below : (k e : List ℤ) (es : List (List ℤ)) → row_cmp k e ≡ Less → AllByRecursion (λ y. row_cmp e y ≡ Less) es → AllByRecursion (λ y. row_eq k y ≡ false) es
  below k e [] h a = tt
  below k e (y ∷ ys) h a = (apart_less k y (row_total.trans k e y h a.0), below k e ys h a.1)

  above : (k : List ℤ) (es : List (List ℤ)) → AllByRecursion (λ y. row_cmp k y ≡ Less) es → AllByRecursion (λ y. row_eq k y ≡ false) es
  above k [] a = tt
  above k (y ∷ ys) a = (apart_less k y a.0, above k ys a.1)

  put_less : (k : List ℤ) (w : List ℤ) (e : List ℤ × V) (es : List (List ℤ × V)) → row_cmp k e.0 ≡ Less
      → put row_cmp start merge (e ∷ es) (k, w) ≡ (k, merge start w) ∷ (e ∷ es)
  put_less k w e es h = ap (λ r. match_ordering r ((k, merge start w) ∷ (e ∷ es)) ((e.0, merge e.1 w) ∷ es) (e ∷ put row_cmp start merge es (k, w))) h

  put_equal : (k : List ℤ) (w : List ℤ) (e : List ℤ × V) (es : List (List ℤ × V)) → row_cmp k e.0 ≡ Equal
      → put row_cmp start merge (e ∷ es) (k, w) ≡ (e.0, merge e.1 w) ∷ es
  put_equal k w e es h = ap (λ r. match_ordering r ((k, merge start w) ∷ (e ∷ es)) ((e.0, merge e.1 w) ∷ es) (e ∷ put row_cmp start merge es (k, w))) h

  put_greater : (k : List ℤ) (w : List ℤ) (e : List ℤ × V) (es : List (List ℤ × V)) → row_cmp k e.0 ≡ Greater
      → put row_cmp start merge (e ∷ es) (k, w) ≡ e ∷ put row_cmp start merge es (k, w)
  put_greater k w e es h = ap (λ r. match_ordering r ((k, merge start w) ∷ (e ∷ es)) ((e.0, merge e.1 w) ∷ es) (e ∷ put row_cmp start merge es (k, w))) h

  put_key : (keys : ℕ) (done : List (List ℤ)) (x : List ℤ) (ks : List (List ℤ)) → IsStrictlySortedBy row_cmp ks
      → (AllByRecursion (λ e. row_eq (take keys x) e ≡ false) ks → value_at keys done (take keys x) ≡ start)
      → map (with_value keys (done ++ x ∷ [])) (add_key (take keys x) ks) ≡ put row_cmp start merge (map (with_value keys done) ks) (split keys x)
  put_key keys done x [] s new =
      λ i. (take keys x, (value_here keys done x (take keys x) (row_itself (take keys x)) ∙ ap (λ v. merge v (drop keys x)) (new tt)) i) ∷ []
  put_key keys done x (e ∷ es) s new = step (row_cmp k e) refl (put_key keys done x es (sorted_tail row_cmp e es s)) where
    k : List ℤ
    k = take keys x

    w : List ℤ
    w = drop keys x

    old : List ℤ → List ℤ × V
    old = with_value keys done

    now : List ℤ → List ℤ × V
    now = with_value keys (done ++ x ∷ [])

    now_here : now k ≡ (k, merge (value_at keys done k) w)
    now_here = λ i. (k, value_here keys done x k (row_itself k) i)

    step : (r : Ordering) → row_cmp k e ≡ r
        → ((AllByRecursion (λ e. row_eq k e ≡ false) es → value_at keys done k ≡ start) → map now (add_key k es) ≡ put row_cmp start merge (map old es) (k, w))
        → map now (add_key k (e ∷ es)) ≡ put row_cmp start merge (map old (e ∷ es)) (k, w)
    step Less h more =
        let all : AllByRecursion (λ y. row_eq k y ≡ false) (e ∷ es) = (apart_less k e h, below k e es h (sorted_head row_cmp e es s)) in
        ap (map now) (at_less k e es h)
        ∙ (λ i. (now_here ∙ ap (λ v. (k, merge v w)) (new all)) i ∷ others keys done x (e ∷ es) all i)
        ∙ sym (put_less k w (old e) (map old es) h)
    step Equal h more =
        let same : k ≡ e = exact_rows k e h in
        let all : AllByRecursion (λ y. row_eq k y ≡ false) es =
        subst (λ u. AllByRecursion (λ y. row_eq u y ≡ false) es) (sym same) (above e es (sorted_head row_cmp e es s)) in
        ap (map now) (at_equal k e es h)
        ∙ (λ i. (e, value_here keys done x e (row_ties k e ∙ ap is_eq h) i) ∷ others keys done x es all i)
        ∙ sym (put_equal k w (old e) (map old es) h)
    step Greater h more =
        ap (map now) (at_greater k e es h)
        ∙ (λ i. (e, value_there keys done x e (apart_greater k e h) i) ∷ more (λ a. new (apart_greater k e h, a)) i)
        ∙ sym (put_greater k w (old e) (map old es) h)

  keys_grouped : (keys : ℕ) (adds ks : List (List ℤ)) → map.keys_of (map (with_value keys adds) ks) ≡ ks
  keys_grouped keys adds [] = refl
  keys_grouped keys adds (k ∷ ks) = ap (λ l. k ∷ l) (keys_grouped keys adds ks)

  module _ (commutes : (v : V) (w u : List ℤ) → merge (merge v w) u ≡ merge (merge v u) w) where
    sorted_keys : (keys : ℕ) (done : List (List ℤ)) → grouped keys done ≡ keyed row_cmp start merge (splits keys done)
        → IsStrictlySortedBy row_cmp (keys_of keys done)
    sorted_keys keys done h =
        subst (IsStrictlySortedBy row_cmp) (ap map.keys_of (sym h) ∙ keys_grouped keys done (keys_of keys done))
        (rising.keyed_sorted row_cmp row_total exact_rows start merge commutes (splits keys done))

    grouped_more : (keys : ℕ) (done : List (List ℤ)) (x : List ℤ) → IsStrictlySortedBy row_cmp (keys_of keys done)
        → grouped keys (done ++ x ∷ []) ≡ put row_cmp start merge (grouped keys done) (split keys x)
    grouped_more keys done x s =
        ap (map (with_value keys (done ++ x ∷ []))) (keys_more keys done x)
        ∙ put_key keys done x (keys_of keys done) s
        (λ a. ap (fold merge start) (none_under keys (take keys x) done (all_keys (λ e. row_eq (take keys x) e ≡ false) keys done a)))

    grouped_from : (keys : ℕ) (done adds : List (List ℤ)) → grouped keys done ≡ keyed row_cmp start merge (splits keys done)
        → grouped keys (done ++ adds) ≡ keyed row_cmp start merge (splits keys (done ++ adds))
    grouped_from keys done [] h = subst (λ l. grouped keys l ≡ keyed row_cmp start merge (splits keys l)) (sym (append-nil done)) h
    grouped_from keys done (x ∷ xs) h =
        let more : grouped keys (done ++ x ∷ []) ≡ keyed row_cmp start merge (splits keys (done ++ x ∷ [])) =
        grouped_more keys done x (sorted_keys keys done h) ∙ ap (λ t. put row_cmp start merge t (split keys x)) h
        ∙ sym (ap (keyed row_cmp start merge) (map-append (split keys) done (x ∷ []))
        ∙ fold-append (put row_cmp start merge) [] (splits keys done) (split keys x ∷ []))
        in
        subst (λ l. grouped keys l ≡ keyed row_cmp start merge (splits keys l)) (append_assoc done (x ∷ []) xs) (grouped_from keys (done ++ x ∷ []) xs more)

    -- what is merged of the rows of each key is a table by keys
    pub grouped_keyed : (keys : ℕ) (adds : List (List ℤ)) → grouped keys adds ≡ keyed row_cmp start merge (splits keys adds)
    grouped_keyed keys adds = grouped_from keys [] adds refl

    -- keys rise
    pub keys_rise : (keys : ℕ) (adds : List (List ℤ)) → IsStrictlySortedBy row_cmp (keys_of keys adds)
    keys_rise keys adds = sorted_keys keys adds (grouped_keyed keys adds)
