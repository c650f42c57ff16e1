-- A joiner that has the items of so many cycles gives these cycles, and then what it collects of what is behind.
use Rattle.std.proofs.Common.{◌≡◌, ℕ, zero, suc, ℤ, ◌+◌, ◌*◌, ◌/◌, ◌%◌, ◌<◌, ◌≤◌, List, [], ◌∷◌, ◌++◌, length, drop, Option, Some, None, refl, sym, ap, ◌∙◌, subst, arith}
use Rattle.std.proofs.Common.{length-drop, ⊎_elim, mul-le-mul_right}
use Rattle.std.specs.Prelude.{slice_get}
use Rattle.std.proofs.lemmas.Bool.{cases_lt}
use Rattle.std.proofs.lemmas.Nat.{mod_below, div_below}
use Rattle.river_base.specs.Places.{list_at}
use Rattle.river_base.proofs.Lists.{there_is, got_first}
use Rattle.brooklet_model.specs.ByIndex.{cycle, branch, number_in_branch, collected_at, collected}
use Rattle.brooklet_model.proofs.Cycles.{positive_cycle, part_below, within_below}
use Rattle.streamit_model.specs.Unrolled.{IsRound}
use Rattle.streamit_model.proofs.Rounds.{collects_longest}
use Rattle.stream_periods.specs.Laws.{HaveCycles, JoinersMove}
use Rattle.stream_periods.specs.Periods.{weight}
use Rattle.stream_periods.proofs.Numbers.{no_some, some_is}
use Rattle.stream_periods.proofs.Splitters.{branch_later, number_later}

-- LISTS BY THEIR PLACES

-- the item at a place of what is behind
pub got_dropped : (k i : ℕ) (xs : List ℤ) → slice_get (drop k xs) i ≡ slice_get xs (k + i)
got_dropped zero i xs = ap (slice_get xs) (let e : i ≡ 0 + i = omega arith in e)
got_dropped (suc k) i [] = refl
got_dropped (suc k) i (x ∷ xs) = got_dropped k i xs ∙ ap (slice_get (x ∷ xs)) (let e : suc (k + i) ≡ suc k + i = omega arith in e)

-- this list has what h says at each place, up to the first at which h says nothing
abbrev pub IsUpTo : (ℕ → Option ℤ) → List ℤ → Type 0
IsUpTo h xs = ((i : ℕ) → i < length xs → slice_get xs i ≡ h i) × (h (length xs) ≡ None)

behind_first : (h : ℕ → Option ℤ) (x : ℤ) (xs : List ℤ) → IsUpTo h (x ∷ xs) → IsUpTo (λ i. h (suc i)) xs
behind_first h x xs p = ((λ i lt. p.0 (suc i) (omega (arith, lt))), p.1)

-- there is one such list
same_up_to : (h : ℕ → Option ℤ) (xs ys : List ℤ) → IsUpTo h xs → IsUpTo h ys → xs ≡ ys
same_up_to h [] [] p q = refl
same_up_to h [] (y ∷ ys) p q = no_some y (q.0 0 (omega arith) ∙ p.1)
same_up_to h (x ∷ xs) [] p q = no_some x (p.0 0 (omega arith) ∙ q.1)
same_up_to h (x ∷ xs) (y ∷ ys) p q =
    ap (λ z. z ∷ xs) (some_is x y (p.0 0 (omega arith) ∙ sym (q.0 0 (omega arith))))
    ∙ ap (λ l. y ∷ l) (same_up_to (λ i. h (suc i)) xs ys (behind_first h x xs p) (behind_first h y ys q))

-- where more is said, it is longer
longer_up_to : (h k : ℕ → Option ℤ) (xs ys : List ℤ) → ((i : ℕ) (v : ℤ) → h i ≡ Some v → k i ≡ Some v) → IsUpTo h xs → IsUpTo k ys
    → (zs : List ℤ) × (ys ≡ xs ++ zs)
longer_up_to h k [] ys m p q = (ys, refl)
longer_up_to h k (x ∷ xs) [] m p q = no_some x (sym (m 0 x (sym (p.0 0 (omega arith)))) ∙ q.1)
longer_up_to h k (x ∷ xs) (y ∷ ys) m p q =
    let rest = longer_up_to (λ i. h (suc i)) (λ i. k (suc i)) xs ys (λ i v e. m (suc i) v e) (behind_first h x xs p) (behind_first k y ys q) in
    let same = some_is y x (q.0 0 (omega arith) ∙ m 0 x (sym (p.0 0 (omega arith)))) in
    (rest.0, ap (λ z. z ∷ ys) same ∙ ap (λ l. x ∷ l) rest.1)

-- CYCLES

module _ (ws : List ℕ) (k : ℕ) (ls rest : List (List ℤ)) (r : IsRound ws (length ls)) (some : 0 < length ls) (len : length rest ≡ length ls)
    (have : HaveCycles ws k ls rest) where
  lt : 0 < cycle ws
  lt = positive_cycle ws (length ls) 0 r.each r.number some

  branch_there : (x : ℕ) → branch ws x < length ls
  branch_there x = let b = part_below ws (x % cycle ws) (mod_below x (cycle ws) lt) in let n = r.number in omega (arith, b, n)

  all : IsUpTo (collected_at ws ls) (collected ws ls)
  all = collects_longest ws ls r

  others : IsUpTo (collected_at ws rest) (collected ws rest)
  others = collects_longest ws rest (subst (IsRound ws) (sym len) r)

  -- what stands so many cycles later
  cycles_later : (y : ℕ) → collected_at ws ls (k * cycle ws + y) ≡ collected_at ws rest y
  cycles_later y =
      let b = branch ws y in
      ap (λ c. slice_get (list_at ls c) (number_in_branch ws (k * cycle ws + y))) (branch_later ws lt k y)
      ∙ ap (slice_get (list_at ls b)) (number_later ws lt k y)
      ∙ sym (got_dropped (k * weight ws b) (number_in_branch ws y) (list_at ls b))
      ∙ ap (λ l. slice_get l (number_in_branch ws y)) (sym (have b (branch_there y)).0)

  -- the items of the cycles are there
  there : (x : ℕ) → x < k * cycle ws → (v : ℤ) × (collected_at ws ls x ≡ Some v)
  there x below =
      let b = branch ws x in
      let w = weight ws b in
      let q = div_below x (cycle ws) k lt below in
      let m = mul-le-mul_right w (let s : x / cycle ws + 1 ≤ k = omega (arith, q) in s) in
      let d = within_below ws (x % cycle ws) (mod_below x (cycle ws) lt) in
      let e = (have b (branch_there x)).1 in
      there_is (list_at ls b) (number_in_branch ws x) (omega (arith, m, d, e))

  enough : k * cycle ws ≤ length (collected ws ls)
  enough = ⊎_elim
      (λ few. let t = there (length (collected ws ls)) few in no_some t.0 (sym t.1 ∙ all.1))
      (λ le. le)
      (cases_lt (length (collected ws ls)) (k * cycle ws))

  moves : collected ws rest ≡ drop (k * cycle ws) (collected ws ls)
  moves =
      let n = k * cycle ws in
      let c = collected ws ls in
      let d = length-drop n c in
      let le = enough in
      same_up_to (collected_at ws rest) (collected ws rest) (drop n c) others (
        (λ i below. got_dropped n i c ∙ all.0 (n + i) (omega (arith, below, d)) ∙ cycles_later i),
        sym (cycles_later (length (drop n c))) ∙ ap (collected_at ws ls) (let e : n + length (drop n c) ≡ length c = omega (arith, d, le) in e) ∙ all.1,
      )

-- the cycles are given, and then what is collected of what is behind
pub joiners_move : JoinersMove
joiners_move ws k ls rest r some len have = (moves ws k ls rest r some len have, enough ws k ls rest r some len have)

-- MORE ITEMS

-- of lists that go on it collects no less
pub collected_grows : (ws : List ℕ) (ls ms : List (List ℤ)) → IsRound ws (length ls) → length ms ≡ length ls
    → ((i : ℕ) → (zs : List ℤ) × (list_at ms i ≡ list_at ls i ++ zs)) → (zs : List ℤ) × (collected ws ms ≡ collected ws ls ++ zs)
collected_grows ws ls ms r len more =
    longer_up_to (collected_at ws ls) (collected_at ws ms) (collected ws ls) (collected ws ms)
    (λ x v e.
    let b = branch ws x in
    let m = more b in
    ap (λ l. slice_get l (number_in_branch ws x)) m.1 ∙ got_first (list_at ls b) m.0 (number_in_branch ws x) v e)
    (collects_longest ws ls r) (collects_longest ws ms (subst (IsRound ws) (sym len) r))
