-- A table of the rows that a table has keeps what that table keeps.
use Rattle.std.proofs.Common.{◌≡◌, ℕ, suc, ℤ, pos, ◌+ℤ◌, ◌≤◌, Bool, true, false, cond, List, [], ◌∷◌, ◌++◌, refl, sym, ap, ◌∙◌, arith}
use Rattle.std.proofs.Common.{fold, map, length, take, drop, append_assoc}
use Rattle.std.proofs.Math.Seq.{take-append_seam, drop-append_seam}
use Rattle.std.specs.Prelude.{flat_map, All}
use Rattle.std.specs.Int.{w64, int_wrap}
use Rattle.std.specs.declared.cmp.Ordering.{Ordering}
use Rattle.std.specs.declared.cmp.Ordering.TheVariants.{Less, Equal, Greater}
use Rattle.std.specs.Ordering.{match_ordering, ordering_reverse}
use Rattle.std.specs.List.{AllByRecursion}
use Rattle.std.specs.List.Sorted.{IsStrictlySortedBy}
use Rattle.std.specs.Map as table
use Rattle.std.proofs.lemmas.Cmp.{tied_itself}
use Rattle.std.proofs.lemmas.Int.{int_wrap-add_right, ints}
use Rattle.std.proofs.lemmas.List.{map-append, append-nil, length-take, length-take-le, take_all}
use Rattle.std.proofs.lemmas.List.Elements.{All-head, All-tail}
use Rattle.std.proofs.lemmas.List.Sums.{fold-append}
use Rattle.std.proofs.lemmas.Map.Keys.{sorted_head, sorted_tail}
use Rattle.river_base.specs.Bags.{put_in_order, ascending}
use Rattle.kern_tables.specs.Keyed.{put, keyed}
use Rattle.river_base.specs.Row.{row_cmp, row_total}
use Rattle.river_base.proofs.Ascending as order
use Rattle.kern_tables.proofs.RisingKeys as rising
use Rattle.river_base.proofs.Rows.{exact_rows}
use Rattle.kern_tables.specs.declared.ranked.Ranked.{Ranked}
use Rattle.kern_tables.specs.Entries.{split, splits, best_more, sum_rows, maximum_rows}
use Rattle.kern_tables.specs.Tables.{value_in, ranked_in, add_value, ranks_before, ranked_row}
use Rattle.kern_tables.proofs.Meant.{sorted_take}
use Rattle.kern_tables.proofs.Ranking.{Rises, Empty, More, stays, place_rises}
use Rattle.kern_tables.proofs.Tabs.{sums, maxima, sums_commute, maxima_commute, best_is, ranked_weakly, apart_ranks}

-- WHAT IS PUT BEHIND ALL OTHERS

-- the key stands behind all of these
abbrev pub IsBehind : {V : Type 0} → List ℤ → List (List ℤ × V) → Type 0
IsBehind k es = AllByRecursion (λ e. row_cmp k e.0 ≡ Greater) es

-- and so does each of the others
abbrev AreBehind : {V : Type 0} → List (List ℤ × V) → List (List ℤ × V) → Type 0
AreBehind done es = AllByRecursion (λ e. IsBehind e.0 done) es

module _ {V : Type 0} (start : V) (merge : V → List ℤ → V) where
  -- the table with one more pair
  abbrev pub add : List (List ℤ × V) → List ℤ × List ℤ → List (List ℤ × V)
  add es a = put row_cmp start merge es a

  -- a key passes what it stands behind
  pub passes : (k w : List ℤ) (e : List ℤ × V) (es : List (List ℤ × V)) → row_cmp k e.0 ≡ Greater → add (e ∷ es) (k, w) ≡ e ∷ add es (k, w)
  passes k w e es h = ap (λ r. match_ordering r ((k, merge start w) ∷ (e ∷ es)) ((e.0, merge e.1 w) ∷ es) (e ∷ add es (k, w))) h

  new_last : (k w : List ℤ) (es : List (List ℤ × V)) → IsBehind k es → add es (k, w) ≡ es ++ (k, merge start w) ∷ []
  new_last k w [] b = refl
  new_last k w (e ∷ es) b = passes k w e es b.0 ∙ ap (λ l. e ∷ l) (new_last k w es b.1)

  at_last : (k w : List ℤ) (v : V) (es : List (List ℤ × V)) → IsBehind k es → add (es ++ (k, v) ∷ []) (k, w) ≡ es ++ (k, merge v w) ∷ []
  at_last k w v [] b = ap (λ r. match_ordering r ((k, merge start w) ∷ ((k, v) ∷ [])) ((k, merge v w) ∷ []) ((k, v) ∷ add [] (k, w))) (tied_itself row_total k)
  at_last k w v (e ∷ es) b = passes k w e (es ++ (k, v) ∷ []) b.0 ∙ ap (λ l. e ∷ l) (at_last k w v es b.1)

  -- rows under one key
  abbrev under : List ℤ → List (List ℤ) → List (List ℤ × List ℤ)
  under k ws = map (λ w. (k, w)) ws

  all_at_last : (k : List ℤ) (ws : List (List ℤ)) (v : V) (es : List (List ℤ × V)) → IsBehind k es
      → fold add (es ++ (k, v) ∷ []) (under k ws) ≡ es ++ (k, fold merge v ws) ∷ []
  all_at_last k [] v es b = refl
  all_at_last k (w ∷ ws) v es b = ap (λ l. fold add l (under k ws)) (at_last k w v es b) ∙ all_at_last k ws (merge v w) es b

  all_last : (k w : List ℤ) (ws : List (List ℤ)) (es : List (List ℤ × V)) → IsBehind k es
      → fold add es (under k (w ∷ ws)) ≡ es ++ (k, fold merge start (w ∷ ws)) ∷ []
  all_last k w ws es b = ap (λ l. fold add l (under k ws)) (new_last k w es b) ∙ all_at_last k ws (merge start w) es b

  -- THE ROWS OF A TABLE, ADDED AGAIN

  module _ (shown : V → List (List ℤ)) where
    -- a value shows at least one row, and what it shows makes it again
    pub record IsMade (v : V) : Type 0 where
      pub first : List ℤ
      pub others : List (List ℤ)
      pub shows : shown v ≡ first ∷ others
      pub again : fold merge start (shown v) ≡ v

    -- what a table shows, each row apart from its key
    abbrev pub shown_of : List (List ℤ × V) → List (List ℤ × List ℤ)
    shown_of es = flat_map (λ e. under e.0 (shown e.1)) es

    one_made : (e : List ℤ × V) (es : List (List ℤ × V)) → IsBehind e.0 es → IsMade e.1 → fold add es (under e.0 (shown e.1)) ≡ es ++ e ∷ []
    one_made e es b m =
        ap (λ ws. fold add es (under e.0 ws)) m.shows ∙ all_last e.0 m.first m.others es b
        ∙ ap (λ v. es ++ (e.0, v) ∷ []) (ap (fold merge start) (sym m.shows) ∙ m.again)

    behind_more : (k : List ℤ) (e : List ℤ × V) (done : List (List ℤ × V)) → IsBehind k done → row_cmp e.0 k ≡ Less → IsBehind k (done ++ e ∷ [])
    behind_more k e [] b h = (row_total.antisymm k e.0 ∙ ap ordering_reverse h, tt)
    behind_more k e (d ∷ ds) b h = (b.0, behind_more k e ds b.1 h)

    all_behind : (e : List ℤ × V) (done es : List (List ℤ × V)) → AreBehind done es → AllByRecursion (λ k. row_cmp e.0 k ≡ Less) (table.keys_of es)
        → AreBehind (done ++ e ∷ []) es
    all_behind e done [] b h = tt
    all_behind e done (x ∷ xs) b h = (behind_more x.0 e done b.0 h.0, all_behind e done xs b.1 h.1)

    made_from : (done es : List (List ℤ × V)) → AreBehind done es → IsStrictlySortedBy row_cmp (table.keys_of es) → AllByRecursion (λ e. IsMade e.1) es
        → fold add done (shown_of es) ≡ done ++ es
    made_from done [] b s m = sym (append-nil done)
    made_from done (e ∷ es) b s m =
        fold-append add done (under e.0 (shown e.1)) (shown_of es)
        ∙ ap (λ l. fold add l (shown_of es)) (one_made e done b.0 m.0)
        ∙ made_from (done ++ e ∷ []) es (all_behind e done es b.1 (sorted_head row_cmp e.0 (table.keys_of es) s)) (sorted_tail row_cmp e.0 (table.keys_of es) s) m.1
        ∙ append_assoc done (e ∷ []) es

    nothing_before : (es : List (List ℤ × V)) → AreBehind [] es
    nothing_before [] = tt
    nothing_before (e ∷ es) = (tt, nothing_before es)

    -- what a table shows makes it again
    pub made_again : (es : List (List ℤ × V)) → IsStrictlySortedBy row_cmp (table.keys_of es) → AllByRecursion (λ e. IsMade e.1) es
        → keyed row_cmp start merge (shown_of es) ≡ es
    made_again es s m = made_from [] es (nothing_before es) s m

  -- WHAT HOLDS OF EACH ENTRY

  -- what holds of a new entry and stays
  pub record IsKept (P : List ℤ → V → Type 0) (k : List ℤ) : Type 0 where
    pub new : (w : List ℤ) → P k (merge start w)
    pub more : (v : V) (w : List ℤ) → P k v → P k (merge v w)

  -- what holds at all keys, and at a new one, holds once a pair is put
  pub put_keeps : (P : List ℤ → V → Type 0) (k w : List ℤ) (es : List (List ℤ × V)) → ((x : List ℤ) (v : V) (u : List ℤ) → P x v → P x (merge v u)) → P k (merge start w)
      → AllByRecursion (λ e. P e.0 e.1) es → AllByRecursion (λ e. P e.0 e.1) (add es (k, w))
  put_keeps P k w [] m n a = (n, tt)
  put_keeps P k w (e ∷ es) m n a = step (row_cmp k e.0) (put_keeps P k w es m n a.1) where
    step : (r : Ordering) → AllByRecursion (λ e. P e.0 e.1) (add es (k, w))
        → AllByRecursion (λ (e : List ℤ × V). P e.0 e.1) (match_ordering r ((k, merge start w) ∷ (e ∷ es)) ((e.0, merge e.1 w) ∷ es) (e ∷ add es (k, w)))
    step Less more = (n, a)
    step Equal more = (m e.0 e.1 w a.0, a.1)
    step Greater more = (a.0, more)

  fold_keeps : (P : List ℤ → V → Type 0) (keys : ℕ) (rows : List (List ℤ)) (es : List (List ℤ × V))
      → ((x : List ℤ) (v : V) (u : List ℤ) → P x v → P x (merge v u))
      → ((row w : List ℤ) → keys ≤ length row → P (take keys row) (merge start w)) → All (λ row. keys ≤ length row) rows → AllByRecursion (λ e. P e.0 e.1) es
      → AllByRecursion (λ e. P e.0 e.1) (fold add es (splits keys rows))
  fold_keeps P keys [] es m n long a = a
  fold_keeps P keys (row ∷ rows) es m n long a =
      fold_keeps P keys rows (add es (split keys row)) m n (All-tail (λ row. keys ≤ length row) row rows long)
      (put_keeps P (take keys row) (drop keys row) es m (n row (drop keys row) (All-head (λ row. keys ≤ length row) row rows long)) a)

-- each row is long enough to have the keys
abbrev pub AreLong : ℕ → List (List ℤ) → Type 0
AreLong keys rows = All (λ row. keys ≤ length row) rows

split_joined : (keys : ℕ) (k w : List ℤ) → length k ≡ keys → split keys (k ++ w) ≡ (k, w)
split_joined keys k w h = λ i. ((ap (λ n. take n (k ++ w)) (sym h) ∙ take-append_seam k w) i, (ap (λ n. drop n (k ++ w)) (sym h) ∙ drop-append_seam k w) i)

-- SUMS

abbrev sum_shown : ℤ → List (List ℤ)
sum_shown v = (v ∷ []) ∷ []

abbrev IsSumAt : ℕ → List ℤ → ℤ → Type 0
IsSumAt keys k v = (length k ≡ keys) × (add_value (pos 0) (v ∷ []) ≡ v)

sum_stays : (v : ℤ) (w : List ℤ) → add_value (pos 0) (add_value v w ∷ []) ≡ add_value v w
sum_stays v w =
    let e : pos 0 +ℤ (v +ℤ value_in w) ≡ v +ℤ value_in w = omega (arith, ints) in
    int_wrap-add_right w64 (pos 0) (v +ℤ value_in w) ∙ ap (int_wrap w64) e

-- at each key of a table of sums stands one value, and the key has its width
pub sums_at : (keys : ℕ) (adds : List (List ℤ)) → AreLong keys adds → AllByRecursion (λ e. IsSumAt keys e.0 e.1) (sums keys adds)
sums_at keys adds long =
    fold_keeps (pos 0) add_value (IsSumAt keys) keys adds []
    (λ k v w p. (p.0, sum_stays v w))
    (λ row w h. (length-take-le keys row h, sum_stays (pos 0) w)) long tt

sums_made : (keys : ℕ) (es : List (List ℤ × ℤ)) → AllByRecursion (λ e. IsSumAt keys e.0 e.1) es
    → AllByRecursion (λ (e : List ℤ × ℤ). IsMade (pos 0) add_value sum_shown e.1) es
sums_made keys [] a = tt
sums_made keys (e ∷ es) a = (record { first = e.1 ∷ []; others = []; shows = refl; again = a.0.1 }, sums_made keys es a.1)

sums_shown : (keys : ℕ) (es : List (List ℤ × ℤ)) → AllByRecursion (λ e. IsSumAt keys e.0 e.1) es
    → splits keys (sum_rows es) ≡ shown_of (pos 0) add_value sum_shown es
sums_shown keys [] a = refl
sums_shown keys (e ∷ es) a = λ i. split_joined keys e.0 (e.1 ∷ []) a.0.0 i ∷ sums_shown keys es a.1 i

-- the rows of a sum make it again
pub sums_again : (keys : ℕ) (adds : List (List ℤ)) → AreLong keys adds → sums keys (sum_rows (sums keys adds)) ≡ sums keys adds
sums_again keys adds long =
    let es = sums keys adds in
    let a = sums_at keys adds long in
    ap (keyed row_cmp (pos 0) add_value) (sums_shown keys es a)
    ∙ made_again (pos 0) add_value sum_shown es (rising.keyed_sorted row_cmp row_total exact_rows (pos 0) add_value sums_commute (splits keys adds))
    (sums_made keys es a)

-- MAXIMA

abbrev rest_of : Ranked → List ℤ
rest_of r = r.value ∷ r.weight ∷ []

abbrev best_shown : List Ranked → List (List ℤ)
best_shown l = map rest_of l

read_again : (l : List Ranked) → map ranked_in (best_shown l) ≡ l
read_again [] = refl
read_again (r ∷ rs) = ap (λ l. r ∷ l) (read_again rs)

-- so many at most, by rank, and at least one
pub record AreRanked (best : ℕ) (l : List Ranked) : Type 0 where
  pub few : length l ≤ best
  pub rise : Rises l
  pub first : Ranked
  pub others : List Ranked
  pub are : l ≡ first ∷ others

in_rank : (l : List Ranked) → Rises l → ascending ranks_before l ≡ l
in_rank [] r = refl
in_rank (x ∷ xs) (More low r) =
    order.ascending-cons ranks_before ranked_weakly apart_ranks x xs ∙ ap (put_in_order ranks_before x) (in_rank xs r) ∙ stays x xs low

best_again : (best : ℕ) (l : List Ranked) → AreRanked best l → fold (best_more best) [] (best_shown l) ≡ l
best_again best l a =
    best_is best (best_shown l) ∙ ap (λ x. take best (ascending ranks_before x)) (read_again l) ∙ ap (take best) (in_rank l a.rise)
    ∙ take_all best l a.few

best_made : (best : ℕ) (l : List Ranked) → AreRanked best l → IsMade [] (best_more best) best_shown l
best_made best l a = record { first = rest_of a.first; others = best_shown a.others; shows = ap best_shown a.are; again = best_again best l a }

-- one that is put in order has a first
record HasFirst (l : List Ranked) : Type 0 where
  first : Ranked
  others : List Ranked
  are : l ≡ first ∷ others

placed_first : (x : Ranked) (l : List Ranked) → HasFirst (put_in_order ranks_before x l)
placed_first x [] = record { first = x; others = []; are = refl }
placed_first x (y ∷ ys) = step (ranks_before y x) where
  step : (b : Bool) → HasFirst (cond b (y ∷ put_in_order ranks_before x ys) (x ∷ (y ∷ ys)))
  step true = record { first = y; others = put_in_order ranks_before x ys; are = refl }
  step false = record { first = x; others = y ∷ ys; are = refl }

ranked_more : (n : ℕ) (l : List Ranked) (w : List ℤ) → Rises l → AreRanked (suc n) (best_more (suc n) l w)
ranked_more n l w r =
    let x = ranked_in w in
    let all = put_in_order ranks_before x l in
    let f = placed_first x l in
    let size = length-take (suc n) all in
    record {
      few = omega (arith, size);
      rise = sorted_take (suc n) all (place_rises x l r);
      first = f.first;
      others = take n f.others;
      are = ap (take (suc n)) f.are;
    }

abbrev IsBestAt : ℕ → ℕ → List ℤ → List Ranked → Type 0
IsBestAt best keys k l = (length k ≡ keys) × AreRanked best l

-- at each key of a table of maxima stand rows in their order, as many as are kept at most, and the key has its width
pub maxima_at : (n keys : ℕ) (adds : List (List ℤ)) → AreLong keys adds → AllByRecursion (λ e. IsBestAt (suc n) keys e.0 e.1) (maxima (suc n) keys adds)
maxima_at n keys adds long =
    fold_keeps [] (best_more (suc n)) (IsBestAt (suc n) keys) keys adds []
    (λ k l w p. (p.0, ranked_more n l w p.1.rise))
    (λ row w h. (length-take-le keys row h, ranked_more n [] w Empty)) long tt

maxima_made : (best keys : ℕ) (es : List (List ℤ × List Ranked)) → AllByRecursion (λ e. IsBestAt best keys e.0 e.1) es
    → AllByRecursion (λ (e : List ℤ × List Ranked). IsMade [] (best_more best) best_shown e.1) es
maxima_made best keys [] a = tt
maxima_made best keys (e ∷ es) a = (best_made best e.1 a.0.1, maxima_made best keys es a.1)

shown_under : (keys : ℕ) (k : List ℤ) (l : List Ranked) → length k ≡ keys → splits keys (map (ranked_row k) l) ≡ under [] (best_more 0) k (best_shown l)
shown_under keys k [] h = refl
shown_under keys k (r ∷ rs) h = λ i. split_joined keys k (rest_of r) h i ∷ shown_under keys k rs h i

maxima_shown : (best keys : ℕ) (es : List (List ℤ × List Ranked)) → AllByRecursion (λ e. IsBestAt best keys e.0 e.1) es
    → splits keys (maximum_rows es) ≡ shown_of [] (best_more best) best_shown es
maxima_shown best keys [] a = refl
maxima_shown best keys (e ∷ es) a =
    map-append (split keys) (map (ranked_row e.0) e.1) (maximum_rows es)
    ∙ (λ i. shown_under keys e.0 e.1 a.0.0 i ++ maxima_shown best keys es a.1 i)

-- the rows of a maximum make it again
pub maxima_again : (n keys : ℕ) (adds : List (List ℤ)) → AreLong keys adds → maxima (suc n) keys (maximum_rows (maxima (suc n) keys adds)) ≡ maxima (suc n) keys adds
maxima_again n keys adds long =
    let es = maxima (suc n) keys adds in
    let a = maxima_at n keys adds long in
    ap (keyed row_cmp [] (best_more (suc n))) (maxima_shown (suc n) keys es a)
    ∙ made_again [] (best_more (suc n)) best_shown es
    (rising.keyed_sorted row_cmp row_total exact_rows [] (best_more (suc n)) (maxima_commute (suc n)) (splits keys adds))
    (maxima_made (suc n) keys es a)
