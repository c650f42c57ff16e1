-- What a heap by rank has, by rank.
use Rattle.std.proofs.Common.{◌≡◌, ℕ, ◌<◌, ◌≤◌, Bool, true, false, cond, List, [], ◌∷◌, ◌++◌, refl, sym, ap, ◌∙◌, subst, arith, length, take, fold}
use Rattle.std.specs.Prelude.{All, Option, Some, None, IsSome, IfSome}
use Rattle.std.specs.BinaryHeap.{IsHeap, PopsGreatest, IsUpperBound}
use Rattle.std.specs.List.{AllByRecursion}
use Rattle.std.specs.List.Sorted.{IsPermutation, IsSortedBy}
use Rattle.std.proofs.lemmas.Bool.{true≢false}
use Rattle.std.proofs.lemmas.List.Elements.{All-head, All-tail, All-cons, All-nil}
use Rattle.std.proofs.lemmas.List.Sorted.{All-permutation, length_permutation}
use Rattle.std.proofs.lemmas.List.{take-append-le, take_all}
use Rattle.river_base.specs.Bags.{put_in_order, ascending}
use Rattle.river_base.proofs.Ascending as order
use Rattle.kern_tables.specs.declared.ranked.Ranked.{Ranked}
use Rattle.kern_tables.specs.Tables.{rank_cmp, ranks_before}
use Rattle.kern_tables.proofs.Tabs.{ranked_weakly, apart_ranks}

abbrev by_rank : List Ranked → List Ranked
by_rank xs = ascending ranks_before xs

-- one row more, by rank
pub pushed : (x : Ranked) (xs ys : List Ranked) → IsPermutation (x ∷ xs) ys → by_rank ys ≡ put_in_order ranks_before x (by_rank xs)
pushed x xs ys h =
    sym (order.ascending-IsPermutation ranks_before ranked_weakly apart_ranks (x ∷ xs) ys h) ∙ order.ascending-cons ranks_before ranked_weakly apart_ranks x xs

each_from : (P : Ranked → Type 0) (xs : List Ranked) → AllByRecursion P xs → All P xs
each_from P [] a = All-nil P
each_from P (x ∷ xs) a = All-cons P x xs a.0 (each_from P xs a.1)

by_recursion : (P : Ranked → Type 0) (xs : List Ranked) → All P xs → AllByRecursion P xs
by_recursion P [] a = tt
by_recursion P (x ∷ xs) a = (All-head P x xs a, by_recursion P xs (All-tail P x xs a))

first_stays : (x w : Ranked) (ws : List Ranked) → ranks_before w x ≡ false → put_in_order ranks_before x (w ∷ ws) ≡ x ∷ (w ∷ ws)
first_stays x w ws h = ap (λ b. cond b (w ∷ put_in_order ranks_before x ws) (x ∷ (w ∷ ws))) h

-- a row that none stands before is put first
pub stays : (x : Ranked) (zs : List Ranked) → AllByRecursion (λ w. ranks_before w x ≡ false) zs → put_in_order ranks_before x zs ≡ x ∷ zs
stays x [] a = refl
stays x (w ∷ ws) a = first_stays x w ws a.0

-- each neighbour is not below the one before
pub data Rises : List Ranked → Type 0 where
  Empty : Rises []
  More : {x : Ranked} {xs : List Ranked} → AllByRecursion (λ w. ranks_before w x ≡ false) xs → Rises xs → Rises (x ∷ xs)

-- what is below none goes to the end
place_last : (x : Ranked) (zs : List Ranked) → Rises zs → AllByRecursion (λ w. ranks_before x w ≡ false) zs → put_in_order ranks_before x zs ≡ zs ++ x ∷ []
place_last x [] r a = refl
place_last x (z ∷ zs) (More low r) a = step (ranks_before z x) refl (place_last x zs r a.1) where
  step : (b : Bool) → ranks_before z x ≡ b → put_in_order ranks_before x zs ≡ zs ++ x ∷ [] → put_in_order ranks_before x (z ∷ zs) ≡ z ∷ (zs ++ x ∷ [])
  step true h more = ap (λ b. cond b (z ∷ put_in_order ranks_before x zs) (x ∷ (z ∷ zs))) h ∙ ap (λ l. z ∷ l) more
  step false h more =
      let e : z ≡ x = apart_ranks z x h a.0 in
      first_stays x z zs h ∙ (λ i. sym e i ∷ (e i ∷ zs))
      ∙ ap (λ l. z ∷ l) (sym (stays x zs (subst (λ u. AllByRecursion (λ w. ranks_before w u ≡ false) zs) e low)) ∙ more)

all_placed : (P : Ranked → Type 0) (x : Ranked) (zs : List Ranked) → P x → AllByRecursion P zs → AllByRecursion P (put_in_order ranks_before x zs)
all_placed P x [] p a = (p, tt)
all_placed P x (z ∷ zs) p a = step (ranks_before z x) (all_placed P x zs p a.1) where
  step : (b : Bool) → AllByRecursion P (put_in_order ranks_before x zs) → AllByRecursion P (cond b (z ∷ put_in_order ranks_before x zs) (x ∷ (z ∷ zs)))
  step true more = (a.0, more)
  step false more = (p, a)

farther : (x z : Ranked) (zs : List Ranked) → ranks_before z x ≡ false → AllByRecursion (λ w. ranks_before w z ≡ false) zs
    → AllByRecursion (λ w. ranks_before w x ≡ false) zs
farther x z [] h a = tt
farther x z (w ∷ ws) h a = (ranked_weakly.chain w z x a.0 h, farther x z ws h a.1)

-- and still when one more is put in its place
pub place_rises : (x : Ranked) (zs : List Ranked) → Rises zs → Rises (put_in_order ranks_before x zs)
place_rises x [] r = More tt Empty
place_rises x (z ∷ zs) (More low r) = step (ranks_before z x) refl (place_rises x zs r) where
  step : (b : Bool) → ranks_before z x ≡ b → Rises (put_in_order ranks_before x zs) → Rises (put_in_order ranks_before x (z ∷ zs))
  step true h more =
      subst Rises (sym (ap (λ b. cond b (z ∷ put_in_order ranks_before x zs) (x ∷ (z ∷ zs))) h))
      (More (all_placed (λ w. ranks_before w z ≡ false) x zs (ranked_weakly.one_way z x h) low) more)
  step false h more = subst Rises (sym (first_stays x z zs h)) (More (h, farther x z zs h low) (More low r))

fold_rises : (acc xs : List Ranked) → Rises acc → Rises (fold (λ done x. put_in_order ranks_before x done) acc xs)
fold_rises acc [] r = r
fold_rises acc (x ∷ xs) r = fold_rises (put_in_order ranks_before x acc) xs (place_rises x acc r)

-- rows by rank rise
pub rises : (xs : List Ranked) → Rises (by_rank xs)
rises xs = fold_rises [] xs Empty

-- the worst leaves
pub popped : (x : Ranked) (xs ys : List Ranked) → IsPermutation xs (x ∷ ys) → IsUpperBound rank_cmp x ys → by_rank xs ≡ by_rank ys ++ x ∷ []
popped x xs ys h up =
    let bound : AllByRecursion (λ w. ranks_before x w ≡ false) (by_rank ys) =
    by_recursion (λ w. ranks_before x w ≡ false) (by_rank ys)
    (All-permutation (λ w. ranks_before x w ≡ false) ys (by_rank ys) (order.ascending_bag ranks_before ranked_weakly apart_ranks ys)
    (each_from (λ w. ranks_before x w ≡ false) ys up))
    in
    order.ascending-IsPermutation ranks_before ranked_weakly apart_ranks xs (x ∷ ys) h
    ∙ order.ascending-cons ranks_before ranked_weakly apart_ranks x ys
    ∙ place_last x (by_rank ys) (rises ys) bound

-- a loop's step: the worst leaves, and more than so many are there
pub still_best : (best : ℕ) (x : Ranked) (xs ys all : List Ranked) → IsPermutation xs (x ∷ ys) → IsUpperBound rank_cmp x ys → best < length xs
    → take best (by_rank xs) ≡ all → take best (by_rank ys) ≡ all
still_best best x xs ys all h up more e =
    let n : length (x ∷ ys) ≡ length xs = length_permutation xs (x ∷ ys) h in
    let m : length (by_rank ys) ≡ length ys = length_permutation ys (by_rank ys) (order.ascending_bag ranks_before ranked_weakly apart_ranks ys) in
    sym (take-append-le best (by_rank ys) (x ∷ []) (omega (arith, n, m, more))) ∙ sym (ap (take best) (popped x xs ys h up)) ∙ e

-- its end
pub all_best : (best : ℕ) (xs all : List Ranked) → length xs ≤ best → take best (by_rank xs) ≡ all → by_rank xs ≡ all
all_best best xs all h e =
    let m : length (by_rank xs) ≡ length xs = length_permutation xs (by_rank xs) (order.ascending_bag ranks_before ranked_weakly apart_ranks xs) in
    sym (take_all best (by_rank xs) (omega (arith, m, h))) ∙ e

-- what a sort leaves
pub ranked_from_sort : (xs ys : List Ranked) → IsPermutation xs ys → IsSortedBy ranks_before ys → ys ≡ by_rank xs
ranked_from_sort = order.ascending_from_sort ranks_before ranked_weakly apart_ranks

-- a loop's step, as `pop` tells it
pub pop_step : (best : ℕ) (r : Option Ranked) (xs ys all : List Ranked) → IsSome r → IfSome r (λ x. IsPermutation xs (x ∷ ys))
    → IfSome r (λ x. PopsGreatest rank_cmp xs x ys)
    → IfSome r (λ x. IsHeap rank_cmp xs → IsUpperBound rank_cmp x ys) → best < length xs → IsHeap rank_cmp xs → take best (by_rank xs) ≡ all
    → IsHeap rank_cmp ys × (take best (by_rank ys) ≡ all)
pop_step best None xs ys all some p g b more heap e = absurd (true≢false (sym some))
pop_step best (Some x) xs ys all some p g b more heap e = ((g heap).0, still_best best x xs ys all p (b heap) more e)

behind_top : (r top : Ranked) (xs : List Ranked) → ranks_before r top ≡ false → IsUpperBound rank_cmp top xs → AllByRecursion (λ w. ranks_before r w ≡ false) xs
behind_top r top [] h up = tt
behind_top r top (w ∷ ws) h up = (ranked_weakly.chain r top w h up.0, behind_top r top ws h up.1)

-- where as many as may be kept are kept, one that does not rank before the worst changes nothing
pub stays_out : (best : ℕ) (r top : Ranked) (xs : List Ranked) → length xs ≡ best → IsUpperBound rank_cmp top xs → ranks_before r top ≡ false
    → take best (put_in_order ranks_before r (by_rank xs)) ≡ by_rank xs
stays_out best r top xs n up h =
    let m : length (by_rank xs) ≡ length xs = length_permutation xs (by_rank xs) (order.ascending_bag ranks_before ranked_weakly apart_ranks xs) in
    let bound : AllByRecursion (λ w. ranks_before r w ≡ false) (by_rank xs) =
    by_recursion (λ w. ranks_before r w ≡ false) (by_rank xs)
    (All-permutation (λ w. ranks_before r w ≡ false) xs (by_rank xs) (order.ascending_bag ranks_before ranked_weakly apart_ranks xs)
    (each_from (λ w. ranks_before r w ≡ false) xs (behind_top r top xs h up)))
    in
    ap (take best) (place_last r (by_rank xs) (rises xs) bound) ∙ take-append-le best (by_rank xs) (r ∷ []) (omega (arith, m, n))
    ∙ take_all best (by_rank xs) (omega (arith, m, n))
