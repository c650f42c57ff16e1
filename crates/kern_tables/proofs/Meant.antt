-- What stands at a key, and what is kept of a maximum.
use Rattle.std.proofs.Common.{inl, inr, ◌≡◌, ℕ, zero, suc, ℤ, pos, Bool, true, false, cond, List, [], ◌∷◌, ◌++◌, refl, sym, ap, ◌∙◌, subst, arith, fold, map}
use Rattle.std.proofs.Common.{take, drop, Some, None}
use Rattle.std.specs.Prelude.{flat_map, min, All, AllPairs, ◌||◌, ◌<ℤ◌, ◌≤ℤ◌}
use Rattle.std.specs.Int.{int_wrap}
use Rattle.std.specs.declared.cmp.Ordering.{Ordering}
use Rattle.std.specs.declared.cmp.Ordering.TheVariants.{Less, Equal, Greater}
use Rattle.std.specs.Ordering.{int_cmp, ordering_then, is_lt, MatchOrdering}
use Rattle.std.specs.Cmp.{int_ranks}
use Rattle.std.proofs.lemmas.Int.{ints}
use Rattle.std.proofs.lemmas.List.Kept.{AllPairs-cons}
use Rattle.std.specs.List.{AllByRecursion, list_any}
use Rattle.std.specs.List.Sorted.{IsPermutation, IsStrictlySortedBy}
use Rattle.std.specs.Map as table
use Rattle.std.specs.BTreeMap.{is_at}
use Rattle.std.proofs.lemmas.Bool.{true≢false}
use Rattle.std.proofs.lemmas.List.{take-append-drop, length-take}
use Rattle.std.proofs.lemmas.List.Elements.{All-cons, All-nil}
use Rattle.std.proofs.lemmas.List.Sorted.{list_any-IsPermutation, length_permutation}
use Rattle.river_base.specs.Bags.{ascending}
use Rattle.kern_tables.specs.Entries.{best_more}
use Rattle.river_base.specs.Number.{wrap}
use Rattle.river_base.specs.Row.{row_eq, row_cmp, row_ties, in_order}
use Rattle.river_base.proofs.Ascending as order
use Rattle.river_base.proofs.Rows.{in_order_bag}
use Rattle.kern_tables.specs.declared.ranked.Ranked.{Ranked}
use Rattle.kern_tables.specs.Laws.{SumsAre, IsAhead, AreBest, MaximaAre}
use Rattle.kern_tables.specs.Tables.{once_after, each_row_once, keys_of, under_key, has_key, ranked_in, add_value, sum_of, ranks_before, best_of, sum_row, ranked_row}
use Rattle.river_base.proofs.Counts.{same_row, row_itself}
use Rattle.kern_tables.proofs.Keyed.{keys_rise}
use Rattle.kern_tables.proofs.Ranking.{Rises, Empty, More, rises}
use Rattle.kern_tables.proofs.Tabs.{sums_commute, maxima_commute, wrapped_sum, ranked_weakly, apart_ranks}

-- A KEY OCCURS WHERE A ROW HAS IT

-- the first of a list, or one of the others
abbrev any_more : Bool → Bool → Bool
any_more b c = b || c

any_after : (k x : List ℤ) (xs : List (List ℤ)) → row_eq k x ≡ false → list_any (row_eq k) (once_after x xs) ≡ list_any (row_eq k) xs
any_after k x [] h = refl
any_after k x (y ∷ ys) h = step (row_eq x y) refl (any_after k x ys h) (λ g. any_after k y ys g) where
  step : (b : Bool) → row_eq x y ≡ b → list_any (row_eq k) (once_after x ys) ≡ list_any (row_eq k) ys
      → (row_eq k y ≡ false → list_any (row_eq k) (once_after y ys) ≡ list_any (row_eq k) ys)
      → list_any (row_eq k) (once_after x (y ∷ ys)) ≡ list_any (row_eq k) (y ∷ ys)
  step true e same other =
      let apart : row_eq k y ≡ false = ap (row_eq k) (sym (same_row x y e)) ∙ h in
      ap (λ b. list_any (row_eq k) (cond b (once_after x ys) (y ∷ once_after y ys))) e ∙ same ∙ sym (ap (λ b. any_more b (list_any (row_eq k) ys)) apart)
  step false e same other = ap (λ b. list_any (row_eq k) (cond b (once_after x ys) (y ∷ once_after y ys))) e ∙ here (row_eq k y) refl where
    here : (b : Bool) → row_eq k y ≡ b → list_any (row_eq k) (y ∷ once_after y ys) ≡ list_any (row_eq k) (y ∷ ys)
    here true g = ap (λ b. any_more b (list_any (row_eq k) (once_after y ys))) g ∙ sym (ap (λ b. any_more b (list_any (row_eq k) ys)) g)
    here false g = ap (any_more (row_eq k y)) (other g)

any_once : (k : List ℤ) (xs : List (List ℤ)) → list_any (row_eq k) (each_row_once xs) ≡ list_any (row_eq k) xs
any_once k [] = refl
any_once k (x ∷ xs) = step (row_eq k x) refl (λ g. any_after k x xs g) where
  step : (b : Bool) → row_eq k x ≡ b → (row_eq k x ≡ false → list_any (row_eq k) (once_after x xs) ≡ list_any (row_eq k) xs)
      → list_any (row_eq k) (x ∷ once_after x xs) ≡ list_any (row_eq k) (x ∷ xs)
  step true g more = ap (λ b. any_more b (list_any (row_eq k) (once_after x xs))) g ∙ sym (ap (λ b. any_more b (list_any (row_eq k) xs)) g)
  step false g more = ap (any_more (row_eq k x)) (more g)

flips : (a b : List ℤ) → row_eq a b ≡ row_eq b a
flips a b = step (row_eq a b) (row_eq b a) refl refl where
  step : (c d : Bool) → row_eq a b ≡ c → row_eq b a ≡ d → c ≡ d
  step true true h g = refl
  step false false h g = refl
  step true false h g = absurd (true≢false (sym (row_itself b) ∙ ap (row_eq b) (sym (same_row a b h)) ∙ g))
  step false true h g = absurd (true≢false (sym (row_itself a) ∙ ap (row_eq a) (sym (same_row b a g)) ∙ h))

any_keys : (keys : ℕ) (k : List ℤ) (adds : List (List ℤ)) → list_any (row_eq k) (map (λ row. take keys row) adds) ≡ list_any (has_key keys k) adds
any_keys keys k [] = refl
any_keys keys k (x ∷ xs) = λ i. any_more (flips k (take keys x) i) (any_keys keys k xs i)

pub any_of_keys : (keys : ℕ) (k : List ℤ) (adds : List (List ℤ)) → list_any (row_eq k) (keys_of keys adds) ≡ list_any (has_key keys k) adds
any_of_keys keys k adds =
    let ks = map (λ row. take keys row) adds in
    any_once k (in_order ks) ∙ sym (list_any-IsPermutation (row_eq k) ks (in_order ks) (in_order_bag ks)) ∙ any_keys keys k adds

-- WHAT STANDS AT A KEY

module _ {V : Type 0} (f : List ℤ → V) where
  abbrev pub paired : List ℤ → List ℤ × V
  paired key = (key, f key)

  found : (k : List ℤ) (ks : List (List ℤ)) → table.lookup (is_at (row_cmp k)) (map paired ks) ≡ cond (list_any (row_eq k) ks) (Some (f k)) None
  found k [] = refl
  found k (x ∷ xs) = step (row_eq k x) refl (found k xs) where
    step : (b : Bool) → row_eq k x ≡ b → table.lookup (is_at (row_cmp k)) (map paired xs) ≡ cond (list_any (row_eq k) xs) (Some (f k)) None
        → table.lookup (is_at (row_cmp k)) (map paired (x ∷ xs)) ≡ cond (list_any (row_eq k) (x ∷ xs)) (Some (f k)) None
    step true e more =
        ap (λ b. cond b (Some (f x)) (table.lookup (is_at (row_cmp k)) (map paired xs))) (sym (row_ties k x) ∙ e)
        ∙ ap (λ y. Some (f y)) (sym (same_row k x e)) ∙ sym (ap (λ b. cond (any_more b (list_any (row_eq k) xs)) (Some (f k)) None) e)
    step false e more =
        ap (λ b. cond b (Some (f x)) (table.lookup (is_at (row_cmp k)) (map paired xs))) (sym (row_ties k x) ∙ e)
        ∙ more ∙ sym (ap (λ b. cond (any_more b (list_any (row_eq k) xs)) (Some (f k)) None) e)

  keys_paired : (ks : List (List ℤ)) → table.keys_of (map paired ks) ≡ ks
  keys_paired [] = refl
  keys_paired (k ∷ ks) = ap (λ l. k ∷ l) (keys_paired ks)

  pub stands_at : (keys : ℕ) (k : List ℤ) (adds : List (List ℤ))
      → table.lookup (is_at (row_cmp k)) (map paired (keys_of keys adds)) ≡ cond (list_any (has_key keys k) adds) (Some (f k)) None
  stands_at keys k adds = found k (keys_of keys adds) ∙ ap (λ b. cond b (Some (f k)) None) (any_of_keys keys k adds)

map_map : {A B C : Type 0} (g : B → C) (f : A → B) (xs : List A) → map (λ x. g (f x)) xs ≡ map g (map f xs)
map_map g f [] = refl
map_map g f (x ∷ xs) = ap (λ l. g (f x) ∷ l) (map_map g f xs)

flat_map_map : {A B C : Type 0} (g : B → List C) (f : A → B) (xs : List A) → flat_map (λ x. g (f x)) xs ≡ flat_map g (map f xs)
flat_map_map g f [] = refl
flat_map_map g f (x ∷ xs) = ap (λ l. g (f x) ++ l) (flat_map_map g f xs)

wrap_zero : wrap (pos 0) ≡ pos 0
unfolding int_wrap
wrap_zero = refl

-- sums by the bag of rows
pub sums_are : SumsAre
sums_are keys adds =
    let f : List ℤ → ℤ = λ key. sum_of (under_key keys key adds) in
    let es : List (List ℤ × ℤ) = map (paired f) (keys_of keys adds) in
    record {
      entries = es;
      rows_are = map_map (λ (e : List ℤ × ℤ). sum_row e.0 e.1) (paired f) (keys_of keys adds);
      rise = subst (IsStrictlySortedBy row_cmp) (sym (keys_paired f (keys_of keys adds))) (keys_rise (pos 0) add_value sums_commute keys adds);
      at =
          λ key. stands_at f keys key adds
          ∙ ap (λ v. cond (list_any (has_key keys key) adds) (Some v) None)
          (ap (λ z. fold add_value z (under_key keys key adds)) (sym wrap_zero) ∙ wrapped_sum (pos 0) (under_key keys key adds));
    }

-- THE BEST

after_all : (P : Ranked → Type 0) (n : ℕ) (xs : List Ranked) → AllByRecursion P xs → All P (drop n xs)
after_all P zero [] h = All-nil P
after_all P zero (x ∷ xs) h = All-cons P x xs h.0 (after_all P zero xs h.1)
after_all P (suc n) [] h = All-nil P
after_all P (suc n) (x ∷ xs) h = after_all P n xs h.1

-- one that does not rank before a is behind it
ahead : (a b : Ranked) → ranks_before b a ≡ false → IsAhead a b
ahead a b h = by_weight (int_cmp a.weight b.weight) refl (int_ranks a.weight b.weight) h where
  by_weight : (r : Ordering) → int_cmp a.weight b.weight ≡ r → MatchOrdering r (a.weight <ℤ b.weight) (a.weight ≡ b.weight) (b.weight <ℤ a.weight)
      → is_lt (ordering_then r (int_cmp b.value a.value)) ≡ false → IsAhead a b
  by_weight Less e m g = absurd (true≢false g)
  by_weight Equal e m g = inr (m, by_value (int_cmp b.value a.value) (int_ranks b.value a.value) g) where
    by_value : (r : Ordering) → MatchOrdering r (b.value <ℤ a.value) (b.value ≡ a.value) (a.value <ℤ b.value) → is_lt r ≡ false → a.value ≤ℤ b.value
    by_value Less n l = absurd (true≢false l)
    by_value Equal n l = omega (arith, ints, n)
    by_value Greater n l = omega (arith, ints, n)
  by_weight Greater e m g = inl m

all_behind : (x : Ranked) (xs : List Ranked) → AllByRecursion (λ w. ranks_before w x ≡ false) xs → All (IsAhead x) xs
all_behind x [] a = All-nil (IsAhead x)
all_behind x (y ∷ ys) a = All-cons (IsAhead x) y ys (ahead x y a.0) (all_behind x ys a.1)

none_over : (n : ℕ) (xs : List Ranked) → Rises xs → All (λ a. All (IsAhead a) (drop n xs)) (take n xs)
none_over zero xs r = All-nil (λ a. All (IsAhead a) xs)
none_over (suc n) [] r = All-nil (λ a. All (IsAhead a) [])
none_over (suc n) (x ∷ xs) (More low r) =
    All-cons (λ a. All (IsAhead a) (drop n xs)) x (take n xs) (after_all (IsAhead x) n xs (behind xs low)) (none_over n xs r)
  where
    behind : (ys : List Ranked) → AllByRecursion (λ w. ranks_before w x ≡ false) ys → AllByRecursion (IsAhead x) ys
    behind [] a = tt
    behind (y ∷ ys) a = (ahead x y a.0, behind ys a.1)

-- the first of what rises rise
pub sorted_take : (n : ℕ) (xs : List Ranked) → Rises xs → Rises (take n xs)
sorted_take zero xs r = Empty
sorted_take (suc n) [] r = Empty
sorted_take (suc n) (x ∷ xs) (More low r) = More (keep n xs low) (sorted_take n xs r)
  where
    keep : (n : ℕ) (ys : List Ranked) → AllByRecursion (λ w. ranks_before w x ≡ false) ys → AllByRecursion (λ w. ranks_before w x ≡ false) (take n ys)
    keep zero ys a = tt
    keep (suc n) [] a = tt
    keep (suc n) (y ∷ ys) a = (a.0, keep n ys a.1)

pairs_from : (xs : List Ranked) → Rises xs → AllPairs IsAhead xs
pairs_from [] r = λ i j d low high. absurd (omega arith)
pairs_from (x ∷ xs) (More low r) = AllPairs-cons IsAhead x xs (all_behind x xs low) (pairs_from xs r)

best_are : (best : ℕ) (rests : List (List ℤ)) → AreBest best (map ranked_in rests) (best_of best rests)
best_are best rests =
    let all = map ranked_in rests in
    let xs = ascending ranks_before all in
    let bag : IsPermutation all xs = order.ascending_bag ranks_before ranked_weakly apart_ranks all in
    let r = rises all in
    record {
      left = drop best xs;
      all_are = subst (IsPermutation all) (sym (take-append-drop best xs)) bag;
      number = length-take best xs ∙ ap (min best) (length_permutation all xs bag);
      by_rank = pairs_from (take best xs) (sorted_take best xs r);
      none_before = none_over best xs r;
    }

-- maxima by the bag of rows
pub maxima_are : MaximaAre
maxima_are keys best adds =
    let f : List ℤ → List Ranked = λ key. best_of best (under_key keys key adds) in
    record {
      entries = map (paired f) (keys_of keys adds);
      rows_are = flat_map_map (λ (e : List ℤ × List Ranked). map (ranked_row e.0) e.1) (paired f) (keys_of keys adds);
      rise = subst (IsStrictlySortedBy row_cmp) (sym (keys_paired f (keys_of keys adds))) (keys_rise [] (best_more best) (maxima_commute best) keys adds);
      kept = f;
      at = λ key. stands_at f keys key adds;
      best_are = λ key. best_are best (under_key keys key adds);
    }
