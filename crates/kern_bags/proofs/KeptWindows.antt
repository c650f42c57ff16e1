-- A window's content after one more batch is a function of what it keeps.
use Rattle.std.proofs.Common.{◌≡◌, ◌<ℤ◌, ◌≤ℤ◌, ◌≤◌, ◌<◌, ◌+◌, ◌-◌, ◌-ℤ◌, ℕ, zero, suc, ℤ, pos, Bool, true, false, cond, Some, List, [], ◌∷◌, ◌++◌, length, map}
use Rattle.std.proofs.Common.{filter, drop, refl, sym, ap, ◌∙◌, arith, subst, length-append, length-drop, ⊎_elim}
use Rattle.std.specs.Prelude.{int_lt, int_le, flat_map, ◌&&◌}
use Rattle.std.specs.List.{AllByRecursion}
use Rattle.std.specs.Ordering.{int_eq}
use Rattle.std.proofs.lemmas.Int.{ints}
use Rattle.std.proofs.lemmas.Bool.{cases_lt}
use Rattle.std.proofs.lemmas.List.{append-nil, map-append, length-map, drop-map, drop-append-le, drop-drop, drop_all}
use Rattle.std.proofs.lemmas.List.Elements.{filter-append}
use Rattle.std.proofs.Math.Seq.{drop-append-add}
use Rattle.river_base.proofs.Tests.{int_lt_true, int_le_true}
use Rattle.river_base.specs.Row.{copies, in_order}
use Rattle.river_base.specs.declared.item.Batch.{Batch}
use Rattle.river_base.specs.declared.item.Item as item
use Rattle.river_base.specs.declared.item.Item.TheVariants.{Flat, Pack}
use Rattle.river_base.specs.declared.item.Flat.TheVariants.{One, Batch as Batched, Change as Changed}
use Rattle.river_base.specs.Held.{batches}
use Rattle.river_base.proofs.Counts.{permutation_from_copies}
use Rattle.river_base.proofs.Rows.{in_order-IsPermutation}
use Rattle.kern_bags.specs.Contents.{later, greatest, rows_where, by_instant, last_of_rows, in_window, content_of}
use Rattle.kern_bags.specs.Kept.{Stamped, stamped, stamped_in_order, AreInTurn, inserted, since, still_in, now_of, now_after, WindowKept, StandsForWindow, IsWindowKept}
use Rattle.kern_bags.specs.declared.kernel.Window.{Window}
use Rattle.kern_bags.specs.declared.kernel.Window.TheVariants.{Now, Range, Unbounded, Latest}
use Rattle.kern_bags.proofs.InTurn.{le_false, filter_all, filter_none, all_join, all_filter, all_from}
use Rattle.kern_bags.proofs.KeptRows.{rows_with, rows_of_all, are_in_turn, none_later, in_turn_more, now_more, greatest_more, sum_all, all_stamped}
use Rattle.kern_bags.proofs.Windowed.{copies-where, later_from, later_to}
use Rattle.kern_changes.proofs.Merged.{all_as}

-- THE LAST OF A LIST

module _ {K : Type 0} where
  abbrev pub last_few : ℕ → List K → List K
  last_few n xs = drop (length xs - n) xs

  drop_nil : (n : ℕ) → drop {A = K} n [] ≡ []
  drop_nil zero = refl
  drop_nil (suc n) = refl

  pub last_of_none : (n : ℕ) → last_few n [] ≡ []
  last_of_none n = drop_nil (0 - n)

  length_last : (n : ℕ) (xs : List K) → length (last_few n xs) ≡ length xs - (length xs - n)
  length_last n xs = length-drop (length xs - n) xs

  -- the last of two lists are those of the second, and then of the first
  last_append : (n : ℕ) (xs ys : List K) → last_few n (xs ++ ys) ≡ last_few (n - length ys) xs ++ last_few n ys
  last_append n xs ys = ⊎_elim few many (cases_lt n (length ys)) where
    long : length (xs ++ ys) ≡ length xs + length ys
    long = length-append xs ys

    few : n < length ys → last_few n (xs ++ ys) ≡ last_few (n - length ys) xs ++ last_few n ys
    few lt =
        ap (λ k. drop k (xs ++ ys)) (let e : length (xs ++ ys) - n ≡ length xs + (length ys - n) = omega (arith, long, lt) in e)
        ∙ drop-append-add xs ys (length ys - n)
        ∙ ap (λ l. l ++ last_few n ys) (sym (drop_all (length xs - (n - length ys)) xs (omega (arith, lt))))

    many : length ys ≤ n → last_few n (xs ++ ys) ≡ last_few (n - length ys) xs ++ last_few n ys
    many le =
        ap (λ k. drop k (xs ++ ys)) (let e : length (xs ++ ys) - n ≡ length xs - (n - length ys) = omega (arith, long, le) in e)
        ∙ drop-append-le (length xs - (n - length ys)) xs ys (omega arith)
        ∙ ap (λ k. drop (length xs - (n - length ys)) xs ++ drop k ys) (let e : 0 ≡ length ys - n = omega (arith, le) in e)

  -- fewer of the last are fewer of all
  last_last : (m n : ℕ) (xs : List K) → m ≤ n → last_few m (last_few n xs) ≡ last_few m xs
  last_last m n xs le =
      drop-drop (length (last_few n xs) - m) (length xs - n) xs
      ∙ ap (λ k. drop k xs) (let l = length_last n xs in let e : length xs - n + (length (last_few n xs) - m) ≡ length xs - m = omega (arith, l, le) in e)

  -- a test that tells no more than another one needs
  absorbed : (p q r : K → Bool) → ((x : K) → p x ≡ true → r x ≡ true) → (xs : List K) → filter p (filter q (filter r xs)) ≡ filter p (filter q xs)
  absorbed p q r h [] = refl
  absorbed p q r h (x ∷ xs) = step (r x) refl (absorbed p q r h xs) where
    short : List K
    short = filter q (filter r xs)

    long : List K
    long = filter q xs

    kept : filter p short ≡ filter p long → (b : Bool) → filter p (cond b (x ∷ short) short) ≡ filter p (cond b (x ∷ long) long)
    kept more true = ap (λ l. cond (p x) (x ∷ l) l) more
    kept more false = more

    gone : r x ≡ false → filter p short ≡ filter p long → (b c : Bool) → p x ≡ c → filter p short ≡ filter p (cond b (x ∷ long) long)
    gone e more true true f = absurd (let t : false ≡ true = sym e ∙ h x f in cc t)
    gone e more true false f = more ∙ sym (ap (λ d. cond d (x ∷ filter p long) (filter p long)) f)
    gone e more false c f = more

    step : (a : Bool) → r x ≡ a → filter p short ≡ filter p long → filter p (filter q (cond a (x ∷ filter r xs) (filter r xs))) ≡ filter p (filter q (x ∷ xs))
    step true e more = kept more (q x)
    step false e more = gone e more (q x) (p x) refl

  -- tests that agree
  filter_same : (p q : K → Bool) (xs : List K) → AllByRecursion (λ x. p x ≡ q x) xs → filter p xs ≡ filter q xs
  filter_same p q [] h = refl
  filter_same p q (x ∷ xs) h = ap (λ b. cond b (x ∷ filter p xs) (filter p xs)) h.0 ∙ ap (λ l. cond (q x) (x ∷ l) l) (filter_same p q xs h.1)

-- INSERTED ROWS

since_inserted : (low low' at : ℤ) (rows : List (List ℤ)) (es : List Stamped) → low ≤ℤ low'
    → since low' (inserted at rows (since low es)) ≡ since low' (inserted at rows es)
since_inserted low low' at rows es le =
    let P : Stamped → Bool = λ e. int_le low' e.0 in
    let R : Stamped → Bool = λ e. int_le low e.0 in
    let F : Stamped → Bool = λ e. int_le e.0 at in
    let G : Stamped → Bool = λ e. int_lt at e.0 in
    let weaker : (e : Stamped) → P e ≡ true → R e ≡ true = λ e h. low_too e.0 h in
    filter-append P (filter F (filter R es)) (stamped at rows ++ filter G (filter R es))
    ∙ ap (λ l. filter P (filter F (filter R es)) ++ l) (filter-append P (stamped at rows) (filter G (filter R es)))
    ∙ (λ i. absorbed P F R weaker es i ++ (filter P (stamped at rows) ++ absorbed P G R weaker es i))
    ∙ sym (filter-append P (filter F es) (stamped at rows ++ filter G es)
    ∙ ap (λ l. filter P (filter F es) ++ l) (filter-append P (stamped at rows) (filter G es)))
  where
    low_too : (u : ℤ) → int_le low' u ≡ true → int_le low u ≡ true
    low_too u h = grind (arith, h, le)

-- rows in turn are those up to an instant, and then the later ones
parts_are : (at : ℤ) (es : List Stamped) → AreInTurn es → es ≡ filter (λ (e : Stamped). int_le e.0 at) es ++ filter (λ (e : Stamped). int_lt at e.0) es
parts_are at [] t = refl
parts_are at (x ∷ xs) t = step (int_le x.0 at) (int_lt at x.0) refl refl (parts_are at xs t.1) where
  F : Stamped → Bool
  F e = int_le e.0 at

  G : Stamped → Bool
  G e = int_lt at e.0

  other : int_le x.0 at ≡ true → int_lt at x.0 ≡ false
  other h = grind (arith, h)

  both : int_le x.0 at ≡ false → at <ℤ x.0
  both h = grind (arith, h)

  step : (a b : Bool) → int_le x.0 at ≡ a → int_lt at x.0 ≡ b → xs ≡ filter F xs ++ filter G xs
      → x ∷ xs ≡ cond a (x ∷ filter F xs) (filter F xs) ++ cond b (x ∷ filter G xs) (filter G xs)
  step true true e f more = absurd (let k : true ≡ false = sym f ∙ other e in cc k)
  step true false e f more = ap (λ l. x ∷ l) more
  step false true e f more =
      let l = both e in
      let later_all : AllByRecursion (λ (f : Stamped). at <ℤ f.0) xs =
      all_as (λ (f : Stamped). x.0 ≤ℤ f.0) (λ (f : Stamped). at <ℤ f.0) xs (λ f h. omega (arith, ints, l, h)) t.0 in
      let none = filter_none F xs (all_as (λ (f : Stamped). at <ℤ f.0) (λ (f : Stamped). F f ≡ false) xs (λ f h. le_false f.0 at h) later_all) in
      let whole = filter_all G xs (all_as (λ (f : Stamped). at <ℤ f.0) (λ (f : Stamped). G f ≡ true) xs (λ f h. int_lt_true at f.0 h) later_all) in
      λ i. sym none i ++ x ∷ sym whole i
  step false false e f more = absurd (let l = int_lt_true at x.0 (both e) in let k : true ≡ false = sym l ∙ f in cc k)

passes_all : {K : Type 0} (p : K → Bool) (xs : List K) → AllByRecursion (λ x. p x ≡ true) (filter p xs)
passes_all p [] = tt
passes_all p (x ∷ xs) = step (p x) refl (passes_all p xs) where
  step : (b : Bool) → p x ≡ b → AllByRecursion (λ y. p y ≡ true) (filter p xs) → AllByRecursion (λ y. p y ≡ true) (cond b (x ∷ filter p xs) (filter p xs))
  step true e more = (e, more)
  step false e more = more

last_inserted : (n : ℕ) (at : ℤ) (rows : List (List ℤ)) (es : List Stamped) → AreInTurn es
    → last_few n (inserted at rows (last_few n es)) ≡ last_few n (inserted at rows es)
last_inserted n at rows es t =
    let F : Stamped → Bool = λ e. int_le e.0 at in
    let G : Stamped → Bool = λ e. int_lt at e.0 in
    let a = filter F es in
    let b = filter G es in
    let s = stamped at rows in
    let a' = last_few (n - length b) a in
    let b' = last_few n b in
    let kept : last_few n es ≡ a' ++ b' = ap (last_few n) (parts_are at es t) ∙ last_append n a b in
    let in_a : AllByRecursion (λ (e : Stamped). F e ≡ true) a' = all_from (λ (e : Stamped). F e ≡ true) (length a - (n - length b)) a (passes_all F es) in
    let in_b : AllByRecursion (λ (e : Stamped). G e ≡ true) b' = all_from (λ (e : Stamped). G e ≡ true) (length b - n) b (passes_all G es) in
    let front : filter F (last_few n es) ≡ a' =
    ap (filter F) kept ∙ filter-append F a' b'
    ∙ (λ i. filter_all F a' in_a i ++ filter_none F b' (all_as (λ (e : Stamped). G e ≡ true) (λ (e : Stamped). F e ≡ false) b' (λ e h. not_le e.0 h) in_b) i)
    ∙ append-nil a' in
    let back : filter G (last_few n es) ≡ b' =
    ap (filter G) kept ∙ filter-append G a' b'
    ∙ (λ i. filter_none G a'
    (all_as (λ (e : Stamped). F e ≡ true) (λ (e : Stamped). G e ≡ false) a' (λ e h. not_lt e.0 h) in_a) i ++ filter_all G b' in_b i) in
    let lb = length_last n b in
    let la = length-append s b' in
    let lc = length-append s b in
    ap (last_few n) (λ i. front i ++ (s ++ back i))
    ∙ last_append n a' (s ++ b')
    ∙ (λ i. last_last (n - length (s ++ b')) (n - length b) a (omega (arith, lb, la)) i ++ last_append n s b' i)
    ∙ (λ i. last_few ((let e : n - length (s ++ b') ≡ n - length (s ++ b) = omega (arith, lb, la, lc) in e) i) a ++
    (last_few ((let e : n - length b' ≡ n - length b = omega (arith, lb) in e) i) s ++ last_last n n b (omega arith) i))
    ∙ sym (last_append n a (s ++ b) ∙ ap (λ l. last_few (n - length (s ++ b)) a ++ l) (last_append n s b))
  where
    not_le : (u : ℤ) → int_lt at u ≡ true → int_le u at ≡ false
    not_le u h = grind (arith, h)

    not_lt : (u : ℤ) → int_le u at ≡ true → int_lt at u ≡ false
    not_lt u h = grind (arith, h)

-- WHAT STAYS

range_grows : (span t t' : ℤ) → t ≤ℤ t' → (later (pos 0) (t -ℤ span)) ≤ℤ (later (pos 0) (t' -ℤ span))
range_grows span t t' h = step (int_lt (pos 0) (t -ℤ span)) refl where
  step : (b : Bool) → int_lt (pos 0) (t -ℤ span) ≡ b → (cond b (t -ℤ span) (pos 0)) ≤ℤ (later (pos 0) (t' -ℤ span))
  step true e = let l : (t' -ℤ span) ≤ℤ (later (pos 0) (t' -ℤ span)) = later_to (pos 0) (t' -ℤ span) in omega (arith, ints, h, l)
  step false e = later_from (pos 0) (t' -ℤ span)

kept_later : (w : Window) (t t' at : ℤ) (rows : List (List ℤ)) (es : List Stamped) → AreInTurn es → t ≤ℤ t'
    → still_in w t' (inserted at rows (still_in w t es)) ≡ still_in w t' (inserted at rows es)
kept_later Now t t' at rows es i h = since_inserted t t' at rows es h
kept_later (Range span) t t' at rows es i h = since_inserted (later (pos 0) (t -ℤ span)) (later (pos 0) (t' -ℤ span)) at rows es (range_grows span t t' h)
kept_later Unbounded t t' at rows es i h = refl
kept_later (Latest n) t t' at rows es i h = last_inserted n at rows es i

-- of no rows none is in a window still
pub still_none : (w : Window) (t : ℤ) → still_in w t [] ≡ []
still_none Now t = refl
still_none (Range span) t = refl
still_none Unbounded t = refl
still_none (Latest n) t = last_of_none n

-- what was let go stays away
pub kept_more : (w : Window) (bs : List Batch) (b : Batch)
    → still_in w (greatest (bs ++ b ∷ [])) (inserted b.at b.rows (still_in w (greatest bs) (stamped_in_order bs))) ≡ still_in w (greatest (bs ++ b ∷ []))
    (stamped_in_order (bs ++ b ∷ []))
kept_more w [] b =
    ap (λ l. still_in w (greatest (b ∷ [])) (inserted b.at b.rows l)) (still_none w (pos 0)) ∙ ap (still_in w (greatest (b ∷ []))) (sym (in_turn_more [] b))
kept_more w (c ∷ cs) b =
    let t = greatest (c ∷ cs) in
    let t' = greatest (c ∷ cs ++ b ∷ []) in
    let h : t ≤ℤ t' = subst (λ u. t ≤ℤ u) (sym (greatest_more (c ∷ cs) b)) (later_from t b.at) in
    kept_later w t t' b.at b.rows (stamped_in_order (c ∷ cs)) (are_in_turn (c ∷ cs)) h ∙ ap (still_in w t') (sym (in_turn_more (c ∷ cs) b))

filter_in_turn : (p : Stamped → Bool) (es : List Stamped) → AreInTurn es → AreInTurn (filter p es)
filter_in_turn p [] t = tt
filter_in_turn p (x ∷ xs) t = step (p x) (filter_in_turn p xs t.1) where
  step : (b : Bool) → AreInTurn (filter p xs) → AreInTurn (cond b (x ∷ filter p xs) (filter p xs))
  step true more = (all_filter (λ (f : Stamped). x.0 ≤ℤ f.0) p xs t.0, more)
  step false more = more

drop_in_turn : (n : ℕ) (es : List Stamped) → AreInTurn es → AreInTurn (drop n es)
drop_in_turn zero es t = t
drop_in_turn (suc n) [] t = tt
drop_in_turn (suc n) (x ∷ xs) t = drop_in_turn n xs t.1

still_in_turn : (w : Window) (t : ℤ) (es : List Stamped) → AreInTurn es → AreInTurn (still_in w t es)
still_in_turn Now t es h = filter_in_turn (λ (e : Stamped). int_le t e.0) es h
still_in_turn (Range span) t es h = filter_in_turn (λ (e : Stamped). int_le (later (pos 0) (t -ℤ span)) e.0) es h
still_in_turn Unbounded t es h = h
still_in_turn (Latest n) t es h = drop_in_turn (length es - n) es h

-- what a window keeps is in turn
pub kept_in_turn : (w : Window) (kept : WindowKept) → IsWindowKept w kept → AreInTurn kept.rows
kept_in_turn w kept k =
    subst AreInTurn (sym k.stands.rows) (still_in_turn w (greatest (batches k.past)) (stamped_in_order (batches k.past)) (are_in_turn (batches k.past)))

join_in_turn : (at : ℤ) (xs ys : List Stamped) → AllByRecursion (λ (e : Stamped). e.0 ≤ℤ at) xs → AllByRecursion (λ (e : Stamped). at ≤ℤ e.0) ys → AreInTurn xs
    → AreInTurn ys → AreInTurn (xs ++ ys)
join_in_turn at [] ys a b t u = u
join_in_turn at (x ∷ xs) ys a b t u =
    let l = a.0 in (
      all_join (λ (f : Stamped). x.0 ≤ℤ f.0) xs ys t.0
          (all_as (λ (f : Stamped). at ≤ℤ f.0) (λ (f : Stamped). x.0 ≤ℤ f.0) ys (λ f h. omega (arith, ints, l, h)) b),
      join_in_turn at xs ys a.1 b t.1 u,
    )

same_in_turn : (at : ℤ) (rows : List (List ℤ)) → AreInTurn (stamped at rows)
same_in_turn at [] = tt
same_in_turn at (r ∷ rs) = (all_stamped (λ t. at ≤ℤ t) at rs (omega (arith, ints)), same_in_turn at rs)

-- and so it is when rows have come
pub inserted_in_turn : (at : ℤ) (rows : List (List ℤ)) (es : List Stamped) → AreInTurn es → AreInTurn (inserted at rows es)
inserted_in_turn at rows es t =
    let F : Stamped → Bool = λ e. int_le e.0 at in
    let G : Stamped → Bool = λ e. int_lt at e.0 in
    join_in_turn at (filter F es) (stamped at rows ++ filter G es)
    (all_as (λ (e : Stamped). F e ≡ true) (λ (e : Stamped). e.0 ≤ℤ at) (filter F es) (λ e h. is_le e.0 h) (passes_all F es))
    (all_join (λ (e : Stamped). at ≤ℤ e.0) (stamped at rows) (filter G es) (all_stamped (λ t. at ≤ℤ t) at rows (omega (arith, ints))) later_all)
    (filter_in_turn F es t)
    (join_in_turn at (stamped at rows) (filter G es) (all_stamped (λ t. t ≤ℤ at) at rows (omega (arith, ints))) later_all (same_in_turn at rows)
    (filter_in_turn G es t))
  where
    is_le : (u : ℤ) → int_le u at ≡ true → u ≤ℤ at
    is_le u h = grind (arith, h)

    is_ge : (u : ℤ) → int_lt at u ≡ true → at ≤ℤ u
    is_ge u h = grind (arith, h)

    later_all : AllByRecursion (λ (e : Stamped). at ≤ℤ e.0) (filter (λ (e : Stamped). int_lt at e.0) es)
    later_all =
        all_as (λ (e : Stamped). int_lt at e.0 ≡ true) (λ (e : Stamped). at ≤ℤ e.0) (filter (λ (e : Stamped). int_lt at e.0) es) (λ e h. is_ge e.0 h)
        (passes_all (λ (e : Stamped). int_lt at e.0) es)

-- CONTENTS

abbrev row_in : Stamped → List ℤ
row_in e = e.1

rows_back : (at : ℤ) (rows : List (List ℤ)) → map row_in (stamped at rows) ≡ rows
rows_back at [] = refl
rows_back at (r ∷ rs) = ap (λ l. r ∷ l) (rows_back at rs)

where_rows : (p : ℤ → Bool) (bs : List Batch) → rows_where p bs ≡ map row_in (filter (λ (e : Stamped). p e.0) (rows_of_all bs))
where_rows p [] = refl
where_rows p (b ∷ bs) = step (p b.at) refl (where_rows p bs) where
  Q : Stamped → Bool
  Q e = p e.0

  all : filter Q (rows_with b ++ rows_of_all bs) ≡ filter Q (rows_with b) ++ filter Q (rows_of_all bs)
  all = filter-append Q (rows_with b) (rows_of_all bs)

  step : (q : Bool) → p b.at ≡ q → rows_where p bs ≡ map row_in (filter Q (rows_of_all bs))
      → flat_map (λ (c : Batch). c.rows) (cond q (b ∷ filter (λ (c : Batch). p c.at) bs) (filter (λ (c : Batch). p c.at) bs)) ≡ map row_in
      (filter Q (rows_with b ++ rows_of_all bs))
  step true e more =
      let whole = filter_all Q (rows_with b) (all_stamped (λ t. p t ≡ true) b.at b.rows e) in
      (λ i. sym (rows_back b.at b.rows) i ++ more i) ∙ sym (map-append row_in (rows_with b) (filter Q (rows_of_all bs)))
      ∙ ap (map row_in) (sym (all ∙ ap (λ l. l ++ filter Q (rows_of_all bs)) whole))
  step false e more =
      let none = filter_none Q (rows_with b) (all_stamped (λ t. p t ≡ false) b.at b.rows e) in
      more ∙ ap (map row_in) (sym (all ∙ ap (λ l. l ++ filter Q (rows_of_all bs)) none))

-- the order of batches is nothing to a bag
where_bag : (p : ℤ → Bool) (bs : List Batch) → in_order (rows_where p bs) ≡ in_order (map row_in (filter (λ (e : Stamped). p e.0) (stamped_in_order bs)))
where_bag p bs =
    in_order-IsPermutation (rows_where p bs) (rows_where p (by_instant bs)) (permutation_from_copies (rows_where p bs) (rows_where p (by_instant bs)) (λ row.
    let f : Batch → ℕ = λ b. cond (p b.at) (copies row b.rows) 0 in
    let s = sum_all f [] bs in
    copies-where row p bs ∙ sym (copies-where row p (by_instant bs) ∙ s ∙ omega arith)))
    ∙ ap in_order (where_rows p (by_instant bs))

content_by : (w : Window) (t : ℤ) (bs : List Batch) → AllByRecursion (λ (e : Stamped). e.0 ≤ℤ t) (stamped_in_order bs)
    → in_order (in_window w t bs) ≡ in_order (map row_in (still_in w t (stamped_in_order bs)))
content_by Now t bs h =
    where_bag (λ u. int_eq u t) bs
    ∙ ap (λ l. in_order (map row_in l))
    (filter_same (λ (e : Stamped). int_eq e.0 t) (λ (e : Stamped). int_le t e.0) (stamped_in_order bs)
    (all_as (λ (e : Stamped). e.0 ≤ℤ t) (λ (e : Stamped). int_eq e.0 t ≡ int_le t e.0) (stamped_in_order bs) (λ e k. same e.0 k) h))
  where
    same : (u : ℤ) → u ≤ℤ t → int_eq u t ≡ int_le t u
    same u k = grind (arith, ints, k)
content_by (Range span) t bs h =
    where_bag (λ u. int_le u t && int_le (later (pos 0) (t -ℤ span)) u) bs
    ∙ ap (λ l. in_order (map row_in l))
    (filter_same (λ (e : Stamped). int_le e.0 t && int_le (later (pos 0) (t -ℤ span)) e.0) (λ (e : Stamped). int_le (later (pos 0) (t -ℤ span)) e.0)
    (stamped_in_order bs)
    (all_as (λ (e : Stamped). e.0 ≤ℤ t) (λ (e : Stamped). (int_le e.0 t && int_le (later (pos 0) (t -ℤ span)) e.0) ≡ int_le (later (pos 0) (t -ℤ span)) e.0)
    (stamped_in_order bs) (λ e k. ap (λ b. b && int_le (later (pos 0) (t -ℤ span)) e.0) (int_le_true e.0 t k)) h))
content_by Unbounded t bs h =
    where_bag (λ u. int_le u t) bs
    ∙ ap (λ l. in_order (map row_in l))
    (filter_all (λ (e : Stamped). int_le e.0 t) (stamped_in_order bs)
    (all_as (λ (e : Stamped). e.0 ≤ℤ t) (λ (e : Stamped). int_le e.0 t ≡ true) (stamped_in_order bs) (λ e k. int_le_true e.0 t k) h))
content_by (Latest n) t bs h =
    let es = stamped_in_order bs in
    let all : rows_where (λ u. int_le u t) (by_instant bs) ≡ map row_in es =
    where_rows (λ u. int_le u t) (by_instant bs)
    ∙ ap (map row_in) (filter_all (λ (e : Stamped). int_le e.0 t) es
    (all_as (λ (e : Stamped). e.0 ≤ℤ t) (λ (e : Stamped). int_le e.0 t ≡ true) es (λ e k. int_le_true e.0 t k) h)) in
    ap in_order (ap (last_of_rows n) all ∙ ap (λ m. drop (m - n) (map row_in es)) (length-map es row_in) ∙ drop-map row_in (length es - n) es)

-- a window's content is what is kept, without instants
pub content_is : (w : Window) (bs : List Batch) → content_of w bs ≡ in_order (map row_in (still_in w (greatest bs) (stamped_in_order bs)))
content_is w bs = content_by w (greatest bs) bs (none_later bs)

-- STEPS

-- the batches of a list with one more
pub batches_more : (past : List item.Item) (b : Batch) → batches (past ++ Flat (Batched b) ∷ []) ≡ batches past ++ b ∷ []
batches_more [] b = refl
batches_more (Flat (Batched c) ∷ xs) b = ap (λ l. c ∷ l) (batches_more xs b)
batches_more (Flat (One row) ∷ xs) b = batches_more xs b
batches_more (Flat (Changed c) ∷ xs) b = batches_more xs b
batches_more (Pack fs ∷ xs) b = batches_more xs b

-- a batch comes: its rows are inserted, those that have left are let go, and what is kept is kept of it too
pub window_stands : (w : Window) (b : Batch) (old new : WindowKept) (past : List item.Item) → new.now ≡ Some (now_after old.now b.at)
    → new.rows ≡ still_in w (now_after old.now b.at) (inserted b.at b.rows old.rows) → StandsForWindow w old past
    → StandsForWindow w new (past ++ Flat (Batched b) ∷ [])
window_stands w b old new past now rows h =
    let bs = batches past in
    let more = batches_more past b in
    let t : now_after old.now b.at ≡ greatest (bs ++ b ∷ []) = ap (λ n. now_after n b.at) h.now ∙ sym (greatest_more bs b) in
    let are : new.rows ≡ still_in w (greatest (bs ++ b ∷ [])) (stamped_in_order (bs ++ b ∷ [])) = rows
    ∙ (λ i. still_in w (t i) (inserted b.at b.rows (h.rows i))) ∙ kept_more w bs b in
    record {
      now = now ∙ ap (λ n. Some (now_after n b.at)) h.now ∙ sym (now_more bs b) ∙ ap now_of (sym more);
      rows = are ∙ ap (λ l. still_in w (greatest l) (stamped_in_order l)) (sym more);
    }
