-- What a window has of the batches that came.
use Rattle.std.proofs.Common.{◌⊎◌, inl, inr, ⊎_elim, ◌<ℤ◌, ◌≤◌, ◌≡◌, ℕ, zero, suc, ◌+◌, ◌-◌, ◌≤ℤ◌, ◌-ℤ◌, ℤ, pos, Bool, true, false, cond, List, [], ◌∷◌, ◌++◌}
use Rattle.std.proofs.Common.{length, map, filter, fold, take, drop, refl, sym, ap, ◌∙◌, arith}
use Rattle.std.specs.Prelude.{⊤, count_by, sum_by, flat_map, int_lt, int_le, ◌&&◌, Contains}
use Rattle.std.specs.List.{AllByRecursion}
use Rattle.std.specs.Ordering.{int_eq}
use Rattle.std.proofs.lemmas.Int.{ints}
use Rattle.std.proofs.lemmas.List.{drop-map, length-drop, length-map, map-append, take-append-drop}
use Rattle.std.proofs.lemmas.List.Sums.{sum_by-cons}
use Rattle.river_base.proofs.Tests.{int_lt_by, int_lt_not, int_le_true}
use Rattle.river_base.proofs.Lists.{count_by-append}
use Rattle.river_base.specs.Row.{row_eq, copies}
use Rattle.river_base.specs.declared.item.Batch.{Batch}
use Rattle.river_base.proofs.Counts.{count_pass, bag_from_permutation}
use Rattle.river_base.proofs.Rows.{in_order_bag}
use Rattle.kern_bags.specs.Contents.{later, greatest, rows_where, put_batch, by_instant, last_of_rows, in_window, content_of}
use Rattle.kern_bags.specs.Laws.{lets_pass, ContentsAre, GreatestIsNow, Came, came_at, came, IsLater, LatestAre}
use Rattle.kern_bags.specs.declared.kernel.Window.TheVariants.{Now, Range, Unbounded, Latest}
use Rattle.kern_changes.proofs.Copies.{copies-in_order, sum-cong}

-- INSTANTS

before : (t u : ℤ) → int_lt t u ≡ true → t ≤ℤ u
before t u h = grind (arith, h)

-- what the window says with one comparison
later_of : (span now at : ℤ) → (int_le at now && int_le (later (pos 0) (now -ℤ span)) at) ≡ lets_pass (Range span) now at
later_of span now at = step (int_lt (pos 0) (now -ℤ span)) refl where
  step : (b : Bool) → int_lt (pos 0) (now -ℤ span) ≡ b
      → (int_le at now && int_le (cond b (now -ℤ span) (pos 0)) at) ≡ (int_le (now -ℤ span) at && (int_le (pos 0) at && int_le at now))
  step true e = grind (arith, e)
  step false e = grind (arith, e)

-- CONTENTS

nothing_more : (n : ℕ) → n ≡ 0 + n
nothing_more n = omega arith

-- how many copies of a row have an instant that passes
pub copies-where : (row : List ℤ) (p : ℤ → Bool) (bs : List Batch)
    → copies row (rows_where p bs) ≡ sum_by (λ (b : Batch). cond (p b.at) (copies row b.rows) 0) bs
copies-where row p [] = refl
copies-where row p (b ∷ bs) = step (p b.at) refl (copies-where row p bs) where
  f : Batch → ℕ
  f c = cond (p c.at) (copies row c.rows) 0

  step : (q : Bool) → p b.at ≡ q → copies row (rows_where p bs) ≡ sum_by f bs
      → copies row (flat_map (λ (c : Batch). c.rows) (cond q (b ∷ filter (λ (c : Batch). p c.at) bs) (filter (λ (c : Batch). p c.at) bs))) ≡ sum_by f (b ∷ bs)
  step true e h = count_by-append (row_eq row) b.rows (rows_where p bs) ∙ (λ i. cond (sym e i) (copies row b.rows) 0 + h i) ∙ sym (sum_by-cons f b bs)
  step false e h = h ∙ nothing_more (sum_by f bs) ∙ ap (λ q. cond q (copies row b.rows) 0 + sum_by f bs) (sym e) ∙ sym (sum_by-cons f b bs)

-- contents of windows by copies
pub contents_are : ContentsAre
contents_are Now bs row y = copies-in_order row (in_window Now (greatest bs) bs) ∙ copies-where row (λ u. int_eq u (greatest bs)) bs
contents_are (Range span) bs row y =
    let now = greatest bs in
    copies-in_order row (in_window (Range span) now bs)
    ∙ copies-where row (λ u. int_le u now && int_le (later (pos 0) (now -ℤ span)) u) bs
    ∙ sum-cong (λ (b : Batch). cond (int_le b.at now && int_le (later (pos 0) (now -ℤ span)) b.at) (copies row b.rows) 0)
    (λ (b : Batch). cond (lets_pass (Range span) now b.at) (copies row b.rows) 0) bs
    (λ b. ap (λ q. cond q (copies row b.rows) 0) (later_of span now b.at))
contents_are Unbounded bs row y = copies-in_order row (in_window Unbounded (greatest bs) bs) ∙ copies-where row (λ u. int_le u (greatest bs)) bs
contents_are (Latest n) bs row y = absurd y

-- NOW

-- the later of two instants is at least the first
pub later_from : (t u : ℤ) → t ≤ℤ later t u
later_from t u = step (int_lt t u) refl where
  step : (b : Bool) → int_lt t u ≡ b → t ≤ℤ cond b u t
  step true e = before t u e
  step false e = omega (arith, ints)

-- and at least the second
pub later_to : (t u : ℤ) → u ≤ℤ later t u
later_to t u = step (int_lt t u) refl where
  step : (b : Bool) → int_lt t u ≡ b → u ≤ℤ cond b u t
  step true e = omega (arith, ints)
  step false e = int_lt_not t u e

abbrev latest_from : ℤ → List Batch → ℤ
latest_from t bs = fold (λ u (c : Batch). later u c.at) t bs

none_above : (t : ℤ) (bs : List Batch) → (t ≤ℤ latest_from t bs) × AllByRecursion (λ (c : Batch). c.at ≤ℤ latest_from t bs) bs
none_above t [] = (omega (arith, ints), tt)
none_above t (b ∷ bs) =
    let m = none_above (later t b.at) bs in
    let x = later_from t b.at in
    let y = later_to t b.at in
    let g = m.0 in
    (omega (arith, ints, x, g), (omega (arith, ints, y, g), m.1))

abbrev at_of : Batch → ℤ
at_of b = b.at

deeper : (x : ℤ) (xs : List ℤ) (y : ℤ) → Contains xs y → Contains (x ∷ xs) y
deeper x xs y (k, l, e) = (suc k, omega arith, e)

over_second : (x b : ℤ) (xs : List ℤ) (y : ℤ) → Contains (x ∷ xs) y → Contains (x ∷ (b ∷ xs)) y
over_second x b xs y (zero, l, e) = (zero, omega arith, e)
over_second x b xs y (suc k, l, e) = (suc (suc k), omega arith, e)

some_there : (t : ℤ) (bs : List Batch) → Contains (t ∷ map at_of bs) (latest_from t bs)
some_there t [] = (zero, omega arith, refl)
some_there t (b ∷ bs) = step (int_lt t b.at) (some_there b.at bs) (some_there t bs) where
  step : (q : Bool) → Contains (b.at ∷ map at_of bs) (latest_from b.at bs) → Contains (t ∷ map at_of bs) (latest_from t bs)
      → Contains (t ∷ (b.at ∷ map at_of bs)) (latest_from (cond q b.at t) bs)
  step true c d = deeper t (b.at ∷ map at_of bs) (latest_from b.at bs) c
  step false c d = over_second t b.at (map at_of bs) (latest_from t bs) d

-- the greatest instant, said in two ways
pub greatest_is_now : GreatestIsNow
greatest_is_now b bs = record { none_later = none_above b.at bs; some = some_there b.at bs }

-- each instant is at most the greatest
pub bounded : (bs : List Batch) → AllByRecursion (λ (c : Batch). c.at ≤ℤ greatest bs) bs
bounded [] = tt
bounded (b ∷ bs) = none_above b.at bs

-- BATCHES BY INSTANT

-- a batch, and the place of its first row
record Placed : Type 0 where
  start : ℕ
  batch : Batch

abbrev batch_of : Placed → Batch
batch_of p = p.batch

abbrev end_of : Placed → ℕ
end_of p = p.start + length p.batch.rows

abbrev placed : ℕ → List Batch → List Placed
placed k [] = []
placed k (b ∷ bs) = record { start = k; batch = b } ∷ placed (k + length b.rows) bs

abbrev put : Placed → List Placed → List Placed
put p [] = p ∷ []
put p (q ∷ qs) = cond (int_lt p.batch.at q.batch.at) (p ∷ (q ∷ qs)) (q ∷ put p qs)

abbrev put_all : List Placed → List Placed → List Placed
put_all done ps = fold (λ done p. put p done) done ps

batches_put : (p : Placed) (qs : List Placed) → map batch_of (put p qs) ≡ put_batch p.batch (map batch_of qs)
batches_put p [] = refl
batches_put p (q ∷ qs) = step (int_lt p.batch.at q.batch.at) (batches_put p qs) where
  step : (b : Bool) → map batch_of (put p qs) ≡ put_batch p.batch (map batch_of qs)
      → map batch_of (cond b (p ∷ (q ∷ qs)) (q ∷ put p qs)) ≡ cond b (p.batch ∷ (q.batch ∷ map batch_of qs)) (q.batch ∷ put_batch p.batch (map batch_of qs))
  step true h = refl
  step false h = ap (λ l. q.batch ∷ l) h

batches_all : (done ps : List Placed) → map batch_of (put_all done ps) ≡ fold (λ done b. put_batch b done) (map batch_of done) (map batch_of ps)
batches_all done [] = refl
batches_all done (p ∷ ps) = batches_all (put p done) ps ∙ ap (λ l. fold (λ done b. put_batch b done) l (map batch_of ps)) (batches_put p done)

batches_placed : (k : ℕ) (bs : List Batch) → map batch_of (placed k bs) ≡ bs
batches_placed k [] = refl
batches_placed k (b ∷ bs) = ap (λ l. b ∷ l) (batches_placed (k + length b.rows) bs)

-- the batches by instant, each with its place
abbrev sorted : List Batch → List Placed
sorted bs = put_all [] (placed 0 bs)

batches_sorted : (bs : List Batch) → map batch_of (sorted bs) ≡ by_instant bs
batches_sorted bs = batches_all [] (placed 0 bs) ∙ ap (fold (λ done b. put_batch b done) []) (batches_placed 0 bs)

all_put : (P : Placed → Type 0) (p : Placed) (qs : List Placed) → P p → AllByRecursion P qs → AllByRecursion P (put p qs)
all_put P p [] h a = (h, tt)
all_put P p (q ∷ qs) h a = step (int_lt p.batch.at q.batch.at) (all_put P p qs h a.1) where
  step : (b : Bool) → AllByRecursion P (put p qs) → AllByRecursion P (cond b (p ∷ (q ∷ qs)) (q ∷ put p qs))
  step true more = (h, a)
  step false more = (a.0, more)

all_put_all : (P : Placed → Type 0) (done ps : List Placed) → AllByRecursion P done → AllByRecursion P ps → AllByRecursion P (put_all done ps)
all_put_all P done [] h a = h
all_put_all P done (p ∷ ps) h a = all_put_all P (put p done) ps (all_put P p done a.0 h) a.1

all_placed : (t : ℤ) (k : ℕ) (bs : List Batch) → AllByRecursion (λ (c : Batch). c.at ≤ℤ t) bs → AllByRecursion (λ (p : Placed). p.batch.at ≤ℤ t) (placed k bs)
all_placed t k [] a = tt
all_placed t k (b ∷ bs) a = (a.0, all_placed t (k + length b.rows) bs a.1)

-- the rows of p came before those of q
abbrev Precedes : Placed → Placed → Type 0
Precedes p q = (p.batch.at <ℤ q.batch.at) ⊎ ((p.batch.at ≡ q.batch.at) × (end_of p ≤ q.start))

abbrev Climbs : List Placed → Type 0
Climbs [] = Unit {0}
Climbs (p ∷ ps) = AllByRecursion (Precedes p) ps × Climbs ps

farther : (p q : Placed) (rs : List Placed) → p.batch.at <ℤ q.batch.at → AllByRecursion (Precedes q) rs → AllByRecursion (Precedes p) rs
farther p q [] h a = tt
farther p q (r ∷ rs) h a = (⊎_elim (λ l. inl (omega (arith, ints, l, h))) (λ e. let same = e.0 in inl (omega (arith, ints, same, h))) a.0, farther p q rs h a.1)

precedes : (q p : Placed) → q.batch.at ≤ℤ p.batch.at → end_of q ≤ p.start → Precedes q p
precedes q p h l = step (int_lt q.batch.at p.batch.at) refl where
  step : (b : Bool) → int_lt q.batch.at p.batch.at ≡ b → Precedes q p
  step true e = inl (int_lt_by q.batch.at p.batch.at e)
  step false e = let back = int_lt_not q.batch.at p.batch.at e in inr (omega (arith, ints, back, h), l)

climbs_put : (p : Placed) (qs : List Placed) → AllByRecursion (λ q. end_of q ≤ p.start) qs → Climbs qs → Climbs (put p qs)
climbs_put p [] a h = (tt, tt)
climbs_put p (q ∷ qs) a h = step (int_lt p.batch.at q.batch.at) refl (climbs_put p qs a.1 h.1) where
  step : (b : Bool) → int_lt p.batch.at q.batch.at ≡ b → Climbs (put p qs) → Climbs (cond b (p ∷ (q ∷ qs)) (q ∷ put p qs))
  step true e more = let l = int_lt_by p.batch.at q.batch.at e in ((inl l, farther p q qs l h.0), h)
  step false e more = (all_put (Precedes q) p qs (precedes q p (int_lt_not p.batch.at q.batch.at e) a.0) h.0, more)

ended : (k n : ℕ) (qs : List Placed) → AllByRecursion (λ q. end_of q ≤ k) qs → AllByRecursion (λ q. end_of q ≤ k + n) qs
ended k n [] a = tt
ended k n (q ∷ qs) a = (let l = a.0 in omega (arith, l), ended k n qs a.1)

climbs_all : (done : List Placed) (k : ℕ) (bs : List Batch) → AllByRecursion (λ q. end_of q ≤ k) done → Climbs done → Climbs (put_all done (placed k bs))
climbs_all done k [] a h = h
climbs_all done k (b ∷ bs) a h =
    let p : Placed = record { start = k; batch = b } in
    climbs_all (put p done) (k + length b.rows) bs (all_put (λ q. end_of q ≤ k + length b.rows) p done (omega arith) (ended k (length b.rows) done a))
    (climbs_put p done a h)

-- ROWS THAT CAME

abbrev rows_of : Placed → List Came
rows_of p = came_at p.start p.batch.at p.batch.rows

abbrev all_rows : List Placed → List Came
all_rows [] = []
all_rows (p ∷ ps) = rows_of p ++ all_rows ps

came_placed : (k : ℕ) (bs : List Batch) → came k bs ≡ all_rows (placed k bs)
came_placed k [] = refl
came_placed k (b ∷ bs) = ap (λ l. came_at k b.at b.rows ++ l) (came_placed (k + length b.rows) bs)

count_put : (test : Came → Bool) (p : Placed) (qs : List Placed) → count_by test (all_rows (put p qs)) ≡ count_by test (all_rows (p ∷ qs))
count_put test p [] = refl
count_put test p (q ∷ qs) = step (int_lt p.batch.at q.batch.at) (count_put test p qs) where
  step : (b : Bool) → count_by test (all_rows (put p qs)) ≡ count_by test (all_rows (p ∷ qs))
      → count_by test (all_rows (cond b (p ∷ (q ∷ qs)) (q ∷ put p qs))) ≡ count_by test (all_rows (p ∷ (q ∷ qs)))
  step true h = refl
  step false h =
      let u = count_by-append test (rows_of q) (all_rows (put p qs)) in
      let v = count_by-append test (rows_of p) (all_rows qs) in
      let w = count_by-append test (rows_of p) (all_rows (q ∷ qs)) in
      let x = count_by-append test (rows_of q) (all_rows qs) in
      omega (arith, h, u, v, w, x)

count_put_all : (test : Came → Bool) (done ps : List Placed)
    → count_by test (all_rows (put_all done ps)) ≡ count_by test (all_rows done) + count_by test (all_rows ps)
count_put_all test done [] = omega arith
count_put_all test done (p ∷ ps) =
    let a = count_put_all test (put p done) ps in
    let c = count_put test p done in
    let u = count_by-append test (rows_of p) (all_rows done) in
    let v = count_by-append test (rows_of p) (all_rows ps) in
    omega (arith, a, c, u, v)

count_sorted : (test : Came → Bool) (bs : List Batch) → count_by test (came 0 bs) ≡ count_by test (all_rows (sorted bs))
count_sorted test bs = ap (count_by test) (came_placed 0 bs) ∙ (let a = count_put_all test [] (placed 0 bs) in omega (arith, a))

abbrev row_of : Came → List ℤ
row_of e = e.row

rows_came : (k : ℕ) (at : ℤ) (rows : List (List ℤ)) → map row_of (came_at k at rows) ≡ rows
rows_came k at [] = refl
rows_came k at (r ∷ rs) = ap (λ l. r ∷ l) (rows_came (k + 1) at rs)

where_all : (t : ℤ) (ps : List Placed) → AllByRecursion (λ (p : Placed). p.batch.at ≤ℤ t) ps
    → rows_where (λ u. int_le u t) (map batch_of ps) ≡ map row_of (all_rows ps)
where_all t [] a = refl
where_all t (p ∷ ps) a =
    ap (λ q. flat_map (λ (c : Batch). c.rows)
    (cond q (p.batch ∷ filter (λ (c : Batch). int_le c.at t) (map batch_of ps)) (filter (λ (c : Batch). int_le c.at t) (map batch_of ps))))
    (int_le_true p.batch.at t a.0)
    ∙ (λ i. sym (rows_came p.start p.batch.at p.batch.rows) i ++ where_all t ps a.1 i) ∙ sym (map-append row_of (rows_of p) (all_rows ps))

-- at a later instant, or at the same and at place n or behind
abbrev IsFrom : ℤ → ℕ → Came → Type 0
IsFrom at n f = (at <ℤ f.at) ⊎ ((at ≡ f.at) × (n ≤ f.place))

nearer : (at : ℤ) (m n : ℕ) (es : List Came) → n ≤ m → AllByRecursion (IsFrom at m) es → AllByRecursion (IsFrom at n) es
nearer at m n [] h a = tt
nearer at m n (e ∷ es) h a = (⊎_elim (λ l. inl l) (λ p. let q = p.1 in inr (p.0, omega (arith, q, h))) a.0, nearer at m n es h a.1)

each_from : (at : ℤ) (n k : ℕ) (t : ℤ) (rows : List (List ℤ)) (rest : List Came) → (at <ℤ t) ⊎ ((at ≡ t) × (n ≤ k)) → AllByRecursion (IsFrom at n) rest
    → AllByRecursion (IsFrom at n) (came_at k t rows ++ rest)
each_from at n k t [] rest h a = a
each_from at n k t (r ∷ rs) rest h a = (h, each_from at n (k + 1) t rs rest (⊎_elim (λ l. inl l) (λ p. let q = p.1 in inr (p.0, omega (arith, q))) h) a)

from_all : (p : Placed) (qs : List Placed) → AllByRecursion (Precedes p) qs → AllByRecursion (IsFrom p.batch.at (end_of p)) (all_rows qs)
from_all p [] a = tt
from_all p (q ∷ qs) a = each_from p.batch.at (end_of p) q.start q.batch.at q.batch.rows (all_rows qs) a.0 (from_all p qs a.1)

-- each came later than those before it
abbrev ClimbTimes : List Came → Type 0
ClimbTimes [] = Unit {0}
ClimbTimes (e ∷ es) = AllByRecursion (λ f. IsLater f e) es × ClimbTimes es

all_later : (e : Came) (es : List Came) → AllByRecursion (IsFrom e.at (e.place + 1)) es → AllByRecursion (λ f. IsLater f e) es
all_later e [] a = tt
all_later e (f ∷ fs) a = (⊎_elim (λ l. inl l) (λ p. let q = p.1 in inr (p.0, omega (arith, q))) a.0, all_later e fs a.1)

climb_rows : (k : ℕ) (at : ℤ) (rows : List (List ℤ)) (rest : List Came) → AllByRecursion (IsFrom at (k + length rows)) rest → ClimbTimes rest
    → ClimbTimes (came_at k at rows ++ rest)
climb_rows k at [] rest a h = h
climb_rows k at (r ∷ rs) rest a h = (
  all_later (record { at = at; place = k; row = r }) (came_at (k + 1) at rs ++ rest)
      (each_from at (k + 1) (k + 1) at rs rest (inr (refl, omega arith)) (nearer at (k + length (r ∷ rs)) (k + 1) rest (omega arith) a)),
  climb_rows (k + 1) at rs rest (nearer at (k + length (r ∷ rs)) (k + 1 + length rs) rest (omega arith) a) h,
)

climb_all : (ps : List Placed) → Climbs ps → ClimbTimes (all_rows ps)
climb_all [] h = tt
climb_all (p ∷ ps) h = climb_rows p.start p.batch.at p.batch.rows (all_rows ps) (from_all p ps h.0) (climb_all ps h.1)

-- THE LATEST

module _ {K : Type 0} where
  with_both : (P Q : K → Type 0) (xs : List K) → AllByRecursion P xs → AllByRecursion Q xs → AllByRecursion (λ x. P x × Q x) xs
  with_both P Q [] a b = tt
  with_both P Q (x ∷ xs) a b = ((a.0, b.0), with_both P Q xs a.1 b.1)

  trivially : (xs : List K) → AllByRecursion (λ x. ⊤) xs
  trivially [] = tt
  trivially (x ∷ xs) = (tt, trivially xs)

  all_drop : (P : K → Type 0) (n : ℕ) (xs : List K) → AllByRecursion P xs → AllByRecursion P (drop n xs)
  all_drop P zero xs a = a
  all_drop P (suc n) [] a = tt
  all_drop P (suc n) (x ∷ xs) a = all_drop P n xs a.1

  count_each : (xs : List K) → count_by (λ x. true) xs ≡ length xs
  count_each [] = refl
  count_each (x ∷ xs) = count_pass (λ y. true) x xs refl ∙ ap suc (count_each xs)

later_than : (n : ℕ) (es : List Came) → ClimbTimes es → AllByRecursion (λ k. AllByRecursion (IsLater k) (take n es)) (drop n es)
later_than zero es h = trivially es
later_than (suc n) [] h = tt
later_than (suc n) (e ∷ es) h =
    with_both (λ k. IsLater k e) (λ k. AllByRecursion (IsLater k) (take n es)) (drop n es) (all_drop (λ k. IsLater k e) n es h.0) (later_than n es h.1)

-- the last rows by copies
pub latest_are : LatestAre
latest_are n bs =
    let es = all_rows (sorted bs) in
    let more = length es - n in
    let passed = rows_where (λ u. int_le u (greatest bs)) (by_instant bs) in
    let rows : passed ≡ map row_of es =
    ap (rows_where (λ u. int_le u (greatest bs))) (sym (batches_sorted bs))
    ∙ where_all (greatest bs) (sorted bs)
    (all_put_all (λ (p : Placed). p.batch.at ≤ℤ greatest bs) [] (placed 0 bs) tt (all_placed (greatest bs) 0 bs (bounded bs))) in
    let last : last_of_rows n passed ≡ map row_of (drop more es) =
    ap (last_of_rows n) rows ∙ ap (λ m. drop (m - n) (map row_of es)) (length-map es row_of) ∙ drop-map row_of more es in
    let many : length (came 0 bs) ≡ length es = sym (count_each (came 0 bs)) ∙ count_sorted (λ e. true) bs ∙ count_each es in
    record {
      kept = drop more es;
      left = take more es;
      all_are = λ test.
          let a = count_sorted test bs in
          let b : count_by test es ≡ count_by test (take more es ++ drop more es) = ap (count_by test) (sym (take-append-drop more es)) in
          let c = count_by-append test (take more es) (drop more es) in
          let d = count_by-append test (drop more es) (take more es) in
          omega (arith, a, b, c, d);
      content_is =
          λ test. sym (bag_from_permutation (last_of_rows n passed) (content_of (Latest n) bs) (in_order_bag (last_of_rows n passed)) test)
          ∙ ap (count_by test) last;
      number = let l = length-drop more es in omega (arith, l, many);
      later = later_than more es (climb_all (sorted bs) (climbs_all [] 0 bs tt tt));
    }
