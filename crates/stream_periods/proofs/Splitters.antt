-- A splitter that deals gives each branch its weight in each cycle, and settles.
use Rattle.std.proofs.Common.{◌≡◌, ℕ, suc, ℤ, ◌+◌, ◌*◌, ◌/◌, ◌%◌, ◌<◌, ◌≤◌, Bool, true, false, List, [], ◌∷◌, ◌++◌, length, take, drop, nat_eq, refl, sym, ap, ◌∙◌, arith}
use Rattle.std.proofs.Common.{take-append-drop, length-take-le, drop_at, length-append, ⊎_elim, zero, ◌-◌, length-drop, drop-drop, mul-le-mul_right}
use Rattle.std.specs.Prelude.{if◌then◌else◌}
use Rattle.std.proofs.lemmas.Bool.{cases_eq, cases_lt}
use Rattle.std.proofs.lemmas.Nat.{mod_below, div-add-mod', div-mul-add, mod-mul-add}
use Rattle.river_base.proofs.PlaceLemmas.{if_eq, if_ne}
use Rattle.brooklet_model.specs.ByIndex.{cycle, part_of_cycle, within, branch, number_in_branch, picked, dealt}
use Rattle.brooklet_model.proofs.Cycles.{positive_cycle, taken, taken_none, taken_other, taken_same}
use Rattle.std.proofs.lemmas.List.{drop_all}
use Rattle.stream_periods.specs.Laws.{Grows, IsFading, IsShifting, IsSteady, SplittersMove, SplittersSettle}
use Rattle.stream_periods.specs.Periods.{times_for, weight}
use Rattle.stream_periods.proofs.Numbers.{times_enough, times_rise}
use Rattle.stream_periods.proofs.Settled.{still_agree}

-- CYCLES LATER

module _ (ws : List ℕ) (lt : 0 < cycle ws) where
  later : (k y : ℕ) → ((k * cycle ws + y) % cycle ws ≡ y % cycle ws) × ((k * cycle ws + y) / cycle ws ≡ k + y / cycle ws)
  later k y =
      let w = cycle ws in
      let d = div-add-mod' y w in
      let e : k * w + y ≡ (k + y / w) * w + y % w = omega (arith, d) in (
        ap (λ n. n % w) e ∙ mod-mul-add (k + y / w) w (y % w) (mod_below y w lt),
        ap (λ n. n / w) e ∙ div-mul-add (k + y / w) w (y % w) (mod_below y w lt),
      )

  -- so many cycles later it is the same branch's
  pub branch_later : (k y : ℕ) → branch ws (k * cycle ws + y) ≡ branch ws y
  branch_later k y = ap (part_of_cycle ws) (later k y).0

  -- the branch had its weight in each of the cycles
  pub number_later : (k y : ℕ) → number_in_branch ws (k * cycle ws + y) ≡ k * weight ws (branch ws y) + number_in_branch ws y
  number_later k y =
      let x = k * cycle ws + y in
      let s = weight ws (branch ws y) in
      let l = later k y in
      ap (λ b. x / cycle ws * weight ws b + within ws (x % cycle ws)) (branch_later k y)
      ∙ ap (λ n. n * s + within ws (x % cycle ws)) l.1
      ∙ ap (λ m. (k + y / cycle ws) * s + within ws m) l.0
      ∙ (let e : (k + y / cycle ws) * s + within ws (y % cycle ws) ≡ k * s + (y / cycle ws * s + within ws (y % cycle ws)) = omega arith in e)

  -- of the items of so many cycles branch i was given its weight in each
  taken_cycles : (i k : ℕ) → taken ws i (k * cycle ws) ≡ k * weight ws i
  taken_cycles i k =
      let w = cycle ws in
      let s = weight ws i in
      let l = later k 0 in
      let start = taken_none ws i lt in
      let full : (k * w + 0) / w * s ≡ k * s + 0 / w * s = ap (λ n. n * s) l.1 ∙ (let e : (k + 0 / w) * s ≡ k * s + 0 / w * s = omega arith in e) in
      let same : (k * w + 0) % w ≡ 0 % w = l.0 in
      let more : taken ws i (k * w + 0) ≡ k * s = grind (arith, full, same, start) in
      ap (taken ws i) (let z : k * w ≡ k * w + 0 = omega arith in z) ∙ more

-- PICKING

picked-append : {A : Type 0} (test : ℕ → Bool) (x : ℕ) (xs ys : List A) → picked test x (xs ++ ys) ≡ picked test x xs ++ picked test (x + length xs) ys
picked-append test x [] ys = ap (λ n. picked test n ys) (let e : x ≡ x + 0 = omega arith in e)
picked-append test x (y ∷ xs) ys =
    go (test x)
    (picked-append test (suc x) xs ys ∙ ap (λ n. picked test (suc x) xs ++ picked test n ys) (let e : suc x + length xs ≡ x + suc (length xs) = omega arith in e))
  where
    go : (b : Bool) → picked test (suc x) (xs ++ ys) ≡ picked test (suc x) xs ++ picked test (x + suc (length xs)) ys
        → (if b then y ∷ picked test (suc x) (xs ++ ys) else picked test (suc x) (xs ++ ys))
        ≡ (if b then y ∷ picked test (suc x) xs else picked test (suc x) xs) ++ picked test (x + suc (length xs)) ys
    go true move = ap (λ l. y ∷ l) move
    go false move = move

-- of more items a branch is dealt no less
pub dealt_grows : (ws : List ℕ) (i : ℕ) → Grows (dealt ws i)
dealt_grows ws i xs ys = (picked (λ y. nat_eq (branch ws y) i) (0 + length xs) ys, picked-append (λ y. nat_eq (branch ws y) i) 0 xs ys)

-- WHOLE CYCLES

module _ (ws : List ℕ) (lt : 0 < cycle ws) (i : ℕ) where
  test : ℕ → Bool
  test x = nat_eq (branch ws x) i

  -- how many are picked
  count_picked : (x : ℕ) (xs : List ℤ) → taken ws i x + length (picked (λ y. nat_eq (branch ws y) i) x xs) ≡ taken ws i (x + length xs)
  count_picked x [] = let e : taken ws i x ≡ taken ws i (x + 0) = ap (taken ws i) (let z : x ≡ x + 0 = omega arith in z) in omega (arith, e)
  count_picked x (y ∷ xs) =
      let rest = picked (λ z. nat_eq (branch ws z) i) (suc x) xs in
      let c = count_picked (suc x) xs in
      let s : taken ws i (suc x + length xs) ≡ taken ws i (x + suc (length xs)) =
      ap (taken ws i) (let z : suc x + length xs ≡ x + suc (length xs) = omega arith in z) in
      ⊎_elim
      (λ e.
      let t = taken_same ws i x lt e in
      let l = ap length (if_eq (branch ws x) i (y ∷ rest) rest e) in
      omega (arith, c, s, t, l))
      (λ ne.
      let t = taken_other ws i x lt ne in
      let l = ap length (if_ne (branch ws x) i (y ∷ rest) rest ne) in
      omega (arith, c, s, t, l))
      (cases_eq (branch ws x) i)

  -- cycles later the same are picked
  picked_later : (k x : ℕ) (xs : List ℤ) → picked (λ y. nat_eq (branch ws y) i) (k * cycle ws + x) xs ≡ picked (λ y. nat_eq (branch ws y) i) x xs
  picked_later k x [] = refl
  picked_later k x (y ∷ xs) =
      let at = λ (b : ℕ) (l : List ℤ). if nat_eq b i then y ∷ l else l in
      ap (λ b. at b (picked (λ z. nat_eq (branch ws z) i) (suc (k * cycle ws + x)) xs)) (branch_later ws lt k x)
      ∙ ap (at (branch ws x))
      (ap (λ n. picked (λ z. nat_eq (branch ws z) i) n xs) (let e : suc (k * cycle ws + x) ≡ k * cycle ws + suc x = omega arith in e) ∙ picked_later k (suc x) xs)

  dealt_parts : (k : ℕ) (xs : List ℤ) → k * cycle ws ≤ length xs
      → (front : List ℤ) × (dealt ws i xs ≡ front ++ dealt ws i (drop (k * cycle ws) xs)) × (length front ≡ k * weight ws i)
  dealt_parts k xs le =
      let n = k * cycle ws in
      let t = length-take-le n xs le in
      let front = dealt ws i (take n xs) in
      let c = count_picked 0 (take n xs) in
      let z = taken_none ws i lt in
      let m = taken_cycles ws lt i k in
      let s : taken ws i (0 + length (take n xs)) ≡ taken ws i n = ap (taken ws i) (omega (arith, t)) in (
        front,
        ap (dealt ws i) (sym (take-append-drop n xs))
            ∙ picked-append (λ y. nat_eq (branch ws y) i) 0 (take n xs) (drop n xs)
            ∙ ap (λ l. front ++ l)
            (ap (λ j. picked (λ y. nat_eq (branch ws y) i) j (drop n xs)) (let e : 0 + length (take n xs) ≡ n + 0 = omega (arith, t) in e)
            ∙ picked_later k 0 (drop n xs)),
        omega (arith, c, z, m, s),
      )

  -- so many cycles are dealt
  pub dealt_steady : (k : ℕ) → IsSteady (dealt ws i) (k * cycle ws) (k * weight ws i) 0
  dealt_steady k = record {
    moves = λ xs le.
        let p = dealt_parts k xs (omega (arith, le)) in
        sym (ap (drop (k * weight ws i)) p.1 ∙ drop_at p.0 (dealt ws i (drop (k * cycle ws) xs)) (k * weight ws i) p.2);
    enough = λ xs le.
        let p = dealt_parts k xs (omega (arith, le)) in
        let e = ap length p.1 in
        let l = length-append p.0 (dealt ws i (drop (k * cycle ws) xs)) in
        let n = p.2 in
        omega (arith, e, l, n);
  }

-- of whole cycles
pub splitters_move : SplittersMove
splitters_move ws n i k r lt = dealt_steady ws (positive_cycle ws n 0 r.each r.number lt) i k

-- HOW MANY COME, AND BEHIND WHICH THEY AGREE

module _ (ws : List ℕ) (lt : 0 < cycle ws) (i : ℕ) where
  dealt_long : (xs : List ℤ) → length (dealt ws i xs) ≡ taken ws i (length xs)
  dealt_long xs =
      let c = count_picked ws lt i 0 xs in
      let z = taken_none ws i lt in
      let e : taken ws i (0 + length xs) ≡ taken ws i (length xs) = ap (taken ws i) (omega arith) in
      omega (arith, c, z, e)

  taken_step : (x : ℕ) → taken ws i x ≤ taken ws i (suc x)
  taken_step x = ⊎_elim
      (λ e. let t = taken_same ws i x lt e in omega (arith, t))
      (λ ne. let t = taken_other ws i x lt ne in omega (arith, t))
      (cases_eq (branch ws x) i)

  taken_more : (d x : ℕ) → taken ws i x ≤ taken ws i (d + x)
  taken_more zero x = let e : taken ws i x ≡ taken ws i (zero + x) = ap (taken ws i) (omega arith) in omega (arith, e)
  taken_more (suc d) x =
      let a = taken_more d x in
      let b = taken_step (d + x) in
      let e : taken ws i (suc (d + x)) ≡ taken ws i (suc d + x) = ap (taken ws i) (omega arith) in
      omega (arith, a, b, e)

  taken_rises : (x y : ℕ) → x ≤ y → taken ws i x ≤ taken ws i y
  taken_rises x y le =
      let m = taken_more (y - x) x in
      let e : taken ws i (y - x + x) ≡ taken ws i y = ap (taken ws i) (omega (arith, le)) in
      omega (arith, m, e)

  -- with no condition on how many there are
  dealt_moves : (k : ℕ) (xs : List ℤ) → dealt ws i (drop (k * cycle ws) xs) ≡ drop (k * weight ws i) (dealt ws i xs)
  dealt_moves k xs = ⊎_elim
      (λ few.
      let l = dealt_long xs in
      let t = taken_rises (length xs) (k * cycle ws) (omega (arith, few)) in
      let c = taken_cycles ws lt i k in
      ap (dealt ws i) (drop_all (k * cycle ws) xs (omega (arith, few))) ∙ sym (drop_all (k * weight ws i) (dealt ws i xs) (omega (arith, l, t, c))))
      (λ enough. (dealt_steady ws lt i k).moves xs (omega (arith, enough)))
      (cases_lt (length xs) (k * cycle ws))

  -- what is dealt of lists that agree
  pub dealt_fading : IsFading (dealt ws i) (λ v. times_for v (cycle ws) * weight ws i)
  dealt_fading = record {
    agree = λ v xs ys len e.
        let c = times_for v (cycle ws) in
        sym (dealt_moves c ys) ∙ ap (dealt ws i) (still_agree v (c * cycle ws) xs ys (times_enough v (cycle ws) lt) e) ∙ dealt_moves c xs;
    same = λ xs ys len. dealt_long ys ∙ ap (taken ws i) len ∙ sym (dealt_long xs);
    rises = λ v w le. mul-le-mul_right (weight ws i) (times_rise v w (cycle ws) lt le);
  }

  -- what is dealt behind a cycle
  pub dealt_shifting : (w : ℕ) → IsShifting (dealt ws i) (cycle ws) (weight ws i) 0 w
  dealt_shifting w = record {
    moves = λ xs le. ap (drop w) (one xs) ∙ drop-drop w (weight ws i) (dealt ws i xs);
    fewer = λ xs le.
        let e = ap length (one xs) in
        let d = length-drop (weight ws i) (dealt ws i xs) in
        let m = (dealt_steady ws lt i 1).enough xs (omega (arith, le)) in
        omega (arith, e, d, m);
  }
    where
      one : (xs : List ℤ) → dealt ws i (drop (cycle ws) xs) ≡ drop (weight ws i) (dealt ws i xs)
      one xs =
          ap (λ n. dealt ws i (drop n xs)) (let e : cycle ws ≡ 1 * cycle ws = omega arith in e)
          ∙ dealt_moves 1 xs
          ∙ ap (λ n. drop n (dealt ws i xs)) (let e : 1 * weight ws i ≡ weight ws i = omega arith in e)

-- and where lists agree
pub splitters_settle : SplittersSettle
splitters_settle ws n i r some =
    let lt = positive_cycle ws n 0 r.each r.number some in
    record { takes = lt; fading = dealt_fading ws lt i; shifting = dealt_shifting ws lt i (times_for 0 (cycle ws) * weight ws i) }
