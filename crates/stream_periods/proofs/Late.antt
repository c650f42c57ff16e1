-- Joiners settle: what is collected of lists that are cycles behind is as many cycles behind.
use Rattle.std.proofs.Common.{◌≡◌, ℕ, zero, suc, ℤ, ◌+◌, ◌-◌, ◌*◌, ◌%◌, ◌<◌, ◌≤◌, List, [], ◌∷◌, length, drop, Option, None, refl, sym, ap, ◌∙◌, subst, arith, length-drop, ⊎_elim}
use Rattle.std.specs.Prelude.{slice_get}
use Rattle.std.proofs.lemmas.Bool.{cases_lt, cases_order}
use Rattle.std.proofs.lemmas.Nat.{mod_below}
use Rattle.river_base.specs.Places.{list_at}
use Rattle.river_base.proofs.Lists.{there_is}
use Rattle.brooklet_model.specs.ByIndex.{cycle, branch, number_in_branch, collected_at, collected}
use Rattle.brooklet_model.proofs.Cycles.{positive_cycle, part_below}
use Rattle.streamit_model.specs.Unrolled.{IsRound}
use Rattle.streamit_model.proofs.Rounds.{collects_longest}
use Rattle.stream_periods.specs.Laws.{AreBehind, JoinersSettle}
use Rattle.stream_periods.specs.Periods.{weight}
use Rattle.stream_periods.proofs.Joiners.{IsUpTo, got_dropped, joiners_move}
use Rattle.stream_periods.proofs.Numbers.{no_some, some_is}
use Rattle.stream_periods.proofs.Splitters.{branch_later, number_later}

-- lists with the same at each place
same_places : (xs ys : List ℤ) → length xs ≡ length ys → ((i : ℕ) → i < length xs → slice_get xs i ≡ slice_get ys i) → xs ≡ ys
same_places [] [] e h = refl
same_places [] (y ∷ ys) e h = absurd (omega (arith, e))
same_places (x ∷ xs) [] e h = absurd (omega (arith, e))
same_places (x ∷ xs) (y ∷ ys) e h =
    ap (λ z. z ∷ xs) (some_is x y (h 0 (omega arith)))
    ∙ ap (λ l. y ∷ l) (same_places xs ys (omega (arith, e)) (λ i lt. h (suc i) (omega (arith, lt))))

-- nothing stands behind a list
none_past : (xs : List ℤ) (n : ℕ) → length xs ≤ n → slice_get xs n ≡ None
none_past [] n le = refl
none_past (x ∷ xs) zero le = absurd (omega (arith, le))
none_past (x ∷ xs) (suc n) le = none_past xs n (omega (arith, le))

-- there is something before its end
before_end : (xs : List ℤ) (n : ℕ) → slice_get xs n ≡ None → length xs ≤ n
before_end xs n e = ⊎_elim (λ lt. let t = there_is xs n lt in no_some t.0 (sym t.1 ∙ e)) (λ le. le) (cases_lt n (length xs))

-- each list without so many cycles, the first for branch i
without : List ℕ → ℕ → ℕ → List (List ℤ) → List (List ℤ)
without ws k i [] = []
without ws k i (l ∷ ms) = drop (k * weight ws i) l ∷ without ws k (suc i) ms

without_many : (ws : List ℕ) (k i : ℕ) (ms : List (List ℤ)) → length (without ws k i ms) ≡ length ms
unfolding without
without_many ws k i [] = refl
without_many ws k i (l ∷ ms) = ap suc (without_many ws k (suc i) ms)

drop_none : (n : ℕ) → [] ≡ drop {A = ℤ} n []
drop_none zero = refl
drop_none (suc n) = refl

without_place : (ws : List ℕ) (k i : ℕ) (ms : List (List ℤ)) (j : ℕ) → list_at (without ws k i ms) j ≡ drop (k * weight ws (i + j)) (list_at ms j)
unfolding without
without_place ws k i [] j = drop_none (k * weight ws (i + j))
without_place ws k i (l ∷ ms) zero = ap (λ n. drop (k * weight ws n) l) (let e : i ≡ i + 0 = omega arith in e)
without_place ws k i (l ∷ ms) (suc j) =
    without_place ws k (suc i) ms j ∙ ap (λ n. drop (k * weight ws n) (list_at ms j)) (let e : suc i + j ≡ i + suc j = omega arith in e)

module _ (ws : List ℕ) (k c : ℕ) (ls late : List (List ℤ)) (r : IsRound ws (length ls)) (some : 0 < length ls) (len : length late ≡ length ls)
    (behind : AreBehind ws k c ls late) where
  lt : 0 < cycle ws
  lt = positive_cycle ws (length ls) 0 r.each r.number some

  branch_there : (x : ℕ) → branch ws x < length ls
  branch_there x = let b = part_below ws (x % cycle ws) (mod_below x (cycle ws) lt) in let n = r.number in omega (arith, b, n)

  all : IsUpTo (collected_at ws ls) (collected ws ls)
  all = collects_longest ws ls r

  others : IsUpTo (collected_at ws late) (collected ws late)
  others = collects_longest ws late (subst (IsRound ws) (sym len) r)

  -- where one has an item some cycles later, the other has one
  ends_late : (y : ℕ) → collected_at ws late y ≡ None → collected_at ws ls (k * cycle ws + y) ≡ None
  ends_late y e =
      let b = branch ws y in
      let l = (behind b (branch_there y)).0 in
      let n = number_later ws lt k y in
      let m = before_end (list_at late b) (number_in_branch ws y) e in
      ap (λ q. slice_get (list_at ls q) (number_in_branch ws (k * cycle ws + y))) (branch_later ws lt k y)
      ∙ none_past (list_at ls b) (number_in_branch ws (k * cycle ws + y)) (omega (arith, l, n, m))

  ends_early : (y : ℕ) → collected_at ws ls (k * cycle ws + y) ≡ None → collected_at ws late y ≡ None
  ends_early y e =
      let b = branch ws y in
      let l = (behind b (branch_there y)).0 in
      let n = number_later ws lt k y in
      let m = before_end (list_at ls b) (number_in_branch ws (k * cycle ws + y))
      (ap (λ q. slice_get (list_at ls q) (number_in_branch ws (k * cycle ws + y))) (sym (branch_later ws lt k y)) ∙ e) in
      none_past (list_at late b) (number_in_branch ws y) (omega (arith, l, n, m))

  -- the cycles are there
  cycles_there : k * cycle ws ≤ length (collected ws ls)
  cycles_there =
      (joiners_move ws k ls (without ws k 0 ls) r some (without_many ws k 0 ls)
      (λ i below. (
        without_place ws k 0 ls i ∙ ap (λ n. drop (k * weight ws n) (list_at ls i)) (let e : 0 + i ≡ i = omega arith in e),
        (let l = (behind i below).0 in omega (arith, l)),
      ))).1

  -- a place before the end of what is collected has an item
  item_there : (h : ℕ → Option ℤ) (xs : List ℤ) → IsUpTo h xs → (i : ℕ) → i < length xs → h i ≡ None → ⊥
  item_there h xs up i below e = let t = there_is xs i below in no_some t.0 (sym t.1 ∙ up.0 i below ∙ e)

  fewer : length (collected ws late) + k * cycle ws ≡ length (collected ws ls)
  fewer =
      let n = length (collected ws ls) in
      let m = length (collected ws late) in
      let there = cycles_there in
      ⊎_elim
      (λ e. e)
      (λ q. ⊎_elim
      (λ short.
      absurd (item_there (collected_at ws ls) (collected ws ls) all (m + k * cycle ws) short
      (ap (collected_at ws ls) (let z : m + k * cycle ws ≡ k * cycle ws + m = omega arith in z) ∙ ends_late m others.1)))
      (λ long.
      absurd (item_there (collected_at ws late) (collected ws late) others (n - k * cycle ws) (omega (arith, long, there))
      (ends_early (n - k * cycle ws) (ap (collected_at ws ls) (let z : k * cycle ws + (n - k * cycle ws) ≡ n = omega (arith, there) in z) ∙ all.1))))
      q)
      (cases_order (m + k * cycle ws) n)

  -- the item at a place behind so many cycles
  item_late : (y : ℕ) → collected_at ws late (c * cycle ws + y) ≡ collected_at ws ls (k * cycle ws + c * cycle ws + y)
  item_late y =
      let b = branch ws y in
      let n = number_in_branch ws y in
      let far : k * cycle ws + c * cycle ws + y ≡ (k + c) * cycle ws + y = omega arith in
      ap (λ q. slice_get (list_at late q) (number_in_branch ws (c * cycle ws + y))) (branch_later ws lt c y)
      ∙ ap (slice_get (list_at late b)) (number_later ws lt c y)
      ∙ sym (got_dropped (c * weight ws b) n (list_at late b))
      ∙ ap (λ l. slice_get l n) (behind b (branch_there y)).1
      ∙ got_dropped (k * weight ws b + c * weight ws b) n (list_at ls b)
      ∙ ap (slice_get (list_at ls b)) (let e : k * weight ws b + c * weight ws b + n ≡ (k + c) * weight ws b + n = omega arith in e)
      ∙ ap (slice_get (list_at ls b)) (sym (number_later ws lt (k + c) y))
      ∙ ap (λ q. slice_get (list_at ls q) (number_in_branch ws ((k + c) * cycle ws + y))) (sym (branch_later ws lt (k + c) y))
      ∙ ap (collected_at ws ls) (sym far)

  agrees : drop (c * cycle ws) (collected ws late) ≡ drop (k * cycle ws + c * cycle ws) (collected ws ls)
  agrees =
      let u = c * cycle ws in
      let v = k * cycle ws + c * cycle ws in
      let a = length-drop u (collected ws late) in
      let b = length-drop v (collected ws ls) in
      let l = fewer in
      same_places (drop u (collected ws late)) (drop v (collected ws ls)) (omega (arith, a, b, l))
      (λ i below.
      got_dropped u i (collected ws late)
      ∙ others.0 (u + i) (omega (arith, below, a))
      ∙ item_late i
      ∙ sym (all.0 (v + i) (omega (arith, below, a, l)))
      ∙ sym (got_dropped v i (collected ws ls)))

-- what is collected of lists that are cycles behind is as many cycles behind
pub joiners_settle : JoinersSettle
joiners_settle ws k c ls late r some len behind = (agrees ws k c ls late r some len behind, fewer ws k c ls late r some len behind)
