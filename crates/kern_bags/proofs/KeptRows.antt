-- What a window keeps: the rows that stand in it, batch after batch.
use Rattle.std.proofs.Common.{◌≡◌, ◌<ℤ◌, ◌≤ℤ◌, ◌+◌, ℕ, ℤ, Bool, true, false, cond, Some, List, [], ◌∷◌, ◌++◌, filter, fold, refl, sym, ap, ◌∙◌, arith}
use Rattle.std.proofs.Common.{append_assoc}
use Rattle.std.specs.Prelude.{int_lt, int_le, flat_map, sum_by}
use Rattle.std.specs.List.{AllByRecursion}
use Rattle.std.proofs.lemmas.Int.{ints}
use Rattle.std.proofs.lemmas.List.Elements.{filter-append}
use Rattle.std.proofs.lemmas.List.Sums.{sum_by-cons}
use Rattle.river_base.proofs.Tests.{int_lt_by, int_lt_not, int_lt_true, int_lt_false, int_le_true}
use Rattle.river_base.proofs.Lists.{fold-push}
use Rattle.river_base.specs.declared.item.Batch.{Batch}
use Rattle.kern_bags.specs.Contents.{later, greatest, put_batch, by_instant}
use Rattle.kern_bags.specs.Kept.{Stamped, stamped, stamped_in_order, AreInTurn, inserted, now_of, now_after}
use Rattle.kern_bags.proofs.InTurn.{le_false, filter_all, filter_none, all_join}
use Rattle.kern_bags.proofs.Windowed.{bounded}
use Rattle.kern_changes.proofs.Merged.{all_as}

-- the rows of a batch with its instant
abbrev pub rows_with : Batch → List Stamped
rows_with b = stamped b.at b.rows

-- the rows of all batches with their instants
abbrev pub rows_of_all : List Batch → List Stamped
rows_of_all bs = flat_map rows_with bs

-- BATCHES BY INSTANT

-- each is followed by none of an earlier instant
abbrev Rise : List Batch → Type 0
Rise [] = Unit {0}
Rise (b ∷ bs) = AllByRecursion (λ (c : Batch). b.at ≤ℤ c.at) bs × Rise bs

all_put : (P : Batch → Type 0) (b : Batch) (cs : List Batch) → P b → AllByRecursion P cs → AllByRecursion P (put_batch b cs)
all_put P b [] h a = (h, tt)
all_put P b (c ∷ cs) h a = step (int_lt b.at c.at) (all_put P b cs h a.1) where
  step : (q : Bool) → AllByRecursion P (put_batch b cs) → AllByRecursion P (cond q (b ∷ (c ∷ cs)) (c ∷ put_batch b cs))
  step true more = (h, a)
  step false more = (a.0, more)

rise_put : (b : Batch) (cs : List Batch) → Rise cs → Rise (put_batch b cs)
rise_put b [] r = (tt, tt)
rise_put b (c ∷ cs) r = step (int_lt b.at c.at) refl (rise_put b cs r.1) where
  step : (q : Bool) → int_lt b.at c.at ≡ q → Rise (put_batch b cs) → Rise (cond q (b ∷ (c ∷ cs)) (c ∷ put_batch b cs))
  step true e more =
      let l = int_lt_by b.at c.at e in
      ((omega (arith, ints, l), all_as (λ (d : Batch). c.at ≤ℤ d.at) (λ (d : Batch). b.at ≤ℤ d.at) cs (λ d h. omega (arith, ints, l, h)) r.0), r)
  step false e more = (all_put (λ (d : Batch). c.at ≤ℤ d.at) b cs (int_lt_not b.at c.at e) r.0, more)

rise_all : (done bs : List Batch) → Rise done → Rise (fold (λ d b. put_batch b d) done bs)
rise_all done [] r = r
rise_all done (b ∷ bs) r = rise_all (put_batch b done) bs (rise_put b done r)

all_all : (P : Batch → Type 0) (done bs : List Batch) → AllByRecursion P done → AllByRecursion P bs → AllByRecursion P (fold (λ d b. put_batch b d) done bs)
all_all P done [] h a = h
all_all P done (b ∷ bs) h a = all_all P (put_batch b done) bs (all_put P b done a.0 h) a.1

sum_put : (f : Batch → ℕ) (b : Batch) (cs : List Batch) → sum_by f (put_batch b cs) ≡ f b + sum_by f cs
sum_put f b [] = sum_by-cons f b []
sum_put f b (c ∷ cs) = step (int_lt b.at c.at) (sum_put f b cs) where
  step : (q : Bool) → sum_by f (put_batch b cs) ≡ f b + sum_by f cs → sum_by f (cond q (b ∷ (c ∷ cs)) (c ∷ put_batch b cs)) ≡ f b + sum_by f (c ∷ cs)
  step true h = sum_by-cons f b (c ∷ cs)
  step false h = let x = sum_by-cons f c (put_batch b cs) in let y = sum_by-cons f c cs in omega (arith, x, y, h)

-- a sum over batches that were put in order
pub sum_all : (f : Batch → ℕ) (done bs : List Batch) → sum_by f (fold (λ d b. put_batch b d) done bs) ≡ sum_by f done + sum_by f bs
sum_all f done [] = omega arith
sum_all f done (b ∷ bs) = let m = sum_all f (put_batch b done) bs in let p = sum_put f b done in let c = sum_by-cons f b bs in omega (arith, m, p, c)

-- THEIR ROWS

-- what holds of all instants holds of all rows
pub all_stamped : (P : ℤ → Type 0) (at : ℤ) (rows : List (List ℤ)) → P at → AllByRecursion (λ (e : Stamped). P e.0) (stamped at rows)
all_stamped P at [] h = tt
all_stamped P at (r ∷ rs) h = (h, all_stamped P at rs h)

all_rows : (P : ℤ → Type 0) (bs : List Batch) → AllByRecursion (λ (b : Batch). P b.at) bs → AllByRecursion (λ (e : Stamped). P e.0) (rows_of_all bs)
all_rows P [] h = tt
all_rows P (b ∷ bs) h = all_join (λ (e : Stamped). P e.0) (rows_with b) (rows_of_all bs) (all_stamped P b.at b.rows h.0) (all_rows P bs h.1)

-- one batch more: its rows are inserted
rows_put : (b : Batch) (cs : List Batch) → Rise cs → rows_of_all (put_batch b cs) ≡ inserted b.at b.rows (rows_of_all cs)
rows_put b [] r = refl
rows_put b (c ∷ cs) r = step (int_lt b.at c.at) refl (rows_put b cs r.1) where
  all : List Stamped
  all = rows_of_all (c ∷ cs)

  rest : List Stamped
  rest = rows_of_all cs

  step : (q : Bool) → int_lt b.at c.at ≡ q → rows_of_all (put_batch b cs) ≡ inserted b.at b.rows rest
      → rows_of_all (cond q (b ∷ (c ∷ cs)) (c ∷ put_batch b cs)) ≡ inserted b.at b.rows all
  step true e more =
      let l = int_lt_by b.at c.at e in
      let later_all : AllByRecursion (λ (f : Stamped). b.at <ℤ f.0) all =
      all_rows (λ t. b.at <ℤ t) (c ∷ cs) (l, all_as (λ (d : Batch). c.at ≤ℤ d.at) (λ (d : Batch). b.at <ℤ d.at) cs (λ d h. omega (arith, ints, l, h)) r.0) in
      let none = filter_none (λ (f : Stamped). int_le f.0 b.at) all
      (all_as (λ (f : Stamped). b.at <ℤ f.0) (λ (f : Stamped). int_le f.0 b.at ≡ false) all (λ f h. le_false f.0 b.at h) later_all) in
      let whole = filter_all (λ (f : Stamped). int_lt b.at f.0) all
      (all_as (λ (f : Stamped). b.at <ℤ f.0) (λ (f : Stamped). int_lt b.at f.0 ≡ true) all (λ f h. int_lt_true b.at f.0 h) later_all) in
      λ i. sym none i ++ (rows_with b ++ sym whole i)
  step false e more =
      let l = int_lt_not b.at c.at e in
      let first : AllByRecursion (λ (f : Stamped). f.0 ≤ℤ b.at) (rows_with c) = all_stamped (λ t. t ≤ℤ b.at) c.at c.rows l in
      let whole = filter_all (λ (f : Stamped). int_le f.0 b.at) (rows_with c)
      (all_as (λ (f : Stamped). f.0 ≤ℤ b.at) (λ (f : Stamped). int_le f.0 b.at ≡ true) (rows_with c) (λ f h. int_le_true f.0 b.at h) first) in
      let none = filter_none (λ (f : Stamped). int_lt b.at f.0) (rows_with c)
      (all_as (λ (f : Stamped). f.0 ≤ℤ b.at) (λ (f : Stamped). int_lt b.at f.0 ≡ false) (rows_with c) (λ f h. int_lt_false b.at f.0 h) first) in
      let front : filter (λ (f : Stamped). int_le f.0 b.at) all ≡ rows_with c ++ filter (λ (f : Stamped). int_le f.0 b.at) rest =
      filter-append (λ (f : Stamped). int_le f.0 b.at) (rows_with c) rest ∙ ap (λ t. t ++ filter (λ (f : Stamped). int_le f.0 b.at) rest) whole in
      let back : filter (λ (f : Stamped). int_lt b.at f.0) all ≡ filter (λ (f : Stamped). int_lt b.at f.0) rest =
      filter-append (λ (f : Stamped). int_lt b.at f.0) (rows_with c) rest ∙ ap (λ t. t ++ filter (λ (f : Stamped). int_lt b.at f.0) rest) none in
      ap (λ t. rows_with c ++ t) more
      ∙ sym (append_assoc (rows_with c) (filter (λ (f : Stamped). int_le f.0 b.at) rest) (rows_with b ++ filter (λ (f : Stamped). int_lt b.at f.0) rest))
      ∙ (λ i. sym front i ++ (rows_with b ++ sym back i))

in_turn_stamped : (at : ℤ) (rows : List (List ℤ)) (es : List Stamped) → AllByRecursion (λ (e : Stamped). at ≤ℤ e.0) es → AreInTurn es
    → AreInTurn (stamped at rows ++ es)
in_turn_stamped at [] es a t = t
in_turn_stamped at (r ∷ rs) es a t =
    (all_join (λ (e : Stamped). at ≤ℤ e.0) (stamped at rs) es (all_stamped (λ u. at ≤ℤ u) at rs (omega (arith, ints))) a, in_turn_stamped at rs es a t)

in_turn_rows : (bs : List Batch) → Rise bs → AreInTurn (rows_of_all bs)
in_turn_rows [] r = tt
in_turn_rows (b ∷ bs) r = in_turn_stamped b.at b.rows (rows_of_all bs) (all_rows (λ t. b.at ≤ℤ t) bs r.0) (in_turn_rows bs r.1)

-- the rows that came are in turn
pub are_in_turn : (bs : List Batch) → AreInTurn (stamped_in_order bs)
are_in_turn bs = in_turn_rows (by_instant bs) (rise_all [] bs tt)

-- none of them is later than now
pub none_later : (bs : List Batch) → AllByRecursion (λ (e : Stamped). e.0 ≤ℤ greatest bs) (stamped_in_order bs)
none_later bs = all_rows (λ t. t ≤ℤ greatest bs) (by_instant bs) (all_all (λ (b : Batch). b.at ≤ℤ greatest bs) [] bs tt (bounded bs))

-- one batch more comes among them
pub in_turn_more : (bs : List Batch) (b : Batch) → stamped_in_order (bs ++ b ∷ []) ≡ inserted b.at b.rows (stamped_in_order bs)
in_turn_more bs b = ap rows_of_all (fold-push (λ d c. put_batch c d) [] bs b) ∙ rows_put b (by_instant bs) (rise_all [] bs tt)

-- now, after one batch more
pub now_more : (bs : List Batch) (b : Batch) → now_of (bs ++ b ∷ []) ≡ Some (now_after (now_of bs) b.at)
now_more [] b = refl
now_more (c ∷ cs) b = ap Some (fold-push (λ t (d : Batch). later t d.at) c.at cs b)

-- the greatest instant with one batch more
pub greatest_more : (bs : List Batch) (b : Batch) → greatest (bs ++ b ∷ []) ≡ now_after (now_of bs) b.at
greatest_more [] b = refl
greatest_more (c ∷ cs) b = fold-push (λ t (d : Batch). later t d.at) c.at cs b
