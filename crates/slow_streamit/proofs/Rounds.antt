-- Splitters and joiners, weight after weight and item after item.
use Rattle.std.proofs.Common.{◌≡◌, ℕ, suc, ◌+◌, ◌-◌, ◌<◌, ◌≤◌, ℤ, Bool, true, false, List, [], ◌∷◌, ◌++◌, length, drop, get_or, Some, None, refl, sym, ap}
use Rattle.std.proofs.Common.{◌∙◌, arith, append_assoc, append-nil}
use Rattle.std.specs.Prelude.{nat_eq}
use Rattle.std.proofs.lemmas.List.{drop_all}
use Rattle.brooklet_model.proofs.Cycles.{part_first, part_other, within_first, within_other}
use Rattle.river_base.proofs.Tests.{one_less}
use Rattle.river_base.proofs.Lists.{drop_next}
use Rattle.brooklet_model.specs.ByIndex.{cycle, part_of_cycle, within, branch, picked, dealt, collected_at, and_more, found_front, size_of}

-- A CYCLE

pub cycle-from : (ws : List ℕ) (i w : ℕ) → i < length ws → w ≡ get_or ws i w → cycle (drop i ws) ≡ w + cycle (drop (i + 1) ws)
cycle-from ws i w lt e = ap cycle (drop_next ws i w lt e)

pub cycle-none : (ws : List ℕ) (i : ℕ) → length ws ≤ i → cycle (drop i ws) ≡ 0
cycle-none ws i le = ap cycle (drop_all i ws le)

-- PARTS

-- the place falls where what is left of it falls among the weights that are left
pub record SpotSoFar (ws : List ℕ) (place i left : ℕ) : Type 0 where
  pub part : part_of_cycle ws place ≡ i + part_of_cycle (drop i ws) left
  pub within : within ws place ≡ within (drop i ws) left

pub spot_start : (ws : List ℕ) (place : ℕ) → SpotSoFar ws place 0 place
spot_start ws place = record { part = omega arith; within = refl }

pub spot_next : (ws : List ℕ) (place i left w : ℕ) → i < length ws → w ≡ get_or ws i w → w ≤ left → SpotSoFar ws place i left
    → SpotSoFar ws place (i + 1) (left - w)
spot_next ws place i left w lt e le f = record {
  part =
      let a = f.part in
      let b : part_of_cycle (drop i ws) left ≡ suc (part_of_cycle (drop (i + 1) ws) (left - w)) = ap (λ l. part_of_cycle l left) (drop_next ws i w lt e)
      ∙ part_other w (drop (i + 1) ws) left le in
      omega (arith, a, b);
  within = f.within ∙ ap (λ l. within l left) (drop_next ws i w lt e) ∙ within_other w (drop (i + 1) ws) left le;
}

pub spot_here : (ws : List ℕ) (place i left w : ℕ) → i < length ws → w ≡ get_or ws i w → left < w → SpotSoFar ws place i left
    → (i ≡ part_of_cycle ws place) × (left ≡ within ws place)
spot_here ws place i left w lt e low f =
    let a = f.part in
    let b : part_of_cycle (drop i ws) left ≡ 0 = ap (λ l. part_of_cycle l left) (drop_next ws i w lt e) ∙ part_first w (drop (i + 1) ws) left low in (
      omega (arith, a, b),
      sym (f.within ∙ ap (λ l. within l left) (drop_next ws i w lt e) ∙ within_first w (drop (i + 1) ws) left low),
    )

pub spot_end : (ws : List ℕ) (place left : ℕ) → SpotSoFar ws place (length ws) left → (length ws ≡ part_of_cycle ws place) × (0 ≡ within ws place)
spot_end ws place left f =
    let none : drop (length ws) ws ≡ [] = drop_all (length ws) ws (omega arith) in
    let a = f.part in
    let b : part_of_cycle (drop (length ws) ws) left ≡ 0 = ap (λ l. part_of_cycle l left) none in (
      omega (arith, a, b),
      sym (f.within ∙ ap (λ l. within l left) none),
    )

-- WHAT IS DEALT

-- what was dealt, and what is dealt of the items that are left
abbrev pub DealtSoFar : List ℕ → ℕ → List ℤ → ℕ → List ℤ → Type 0
DealtSoFar ws p xs x out = out ++ picked (λ n. nat_eq (branch ws n) p) x (drop x xs) ≡ dealt ws p xs

picked-this : (test : ℕ → Bool) (x : ℕ) (y : ℤ) (ys : List ℤ) → test x ≡ true → picked test x (y ∷ ys) ≡ y ∷ picked test (suc x) ys
picked-this test x y ys e = rw e

picked-not : (test : ℕ → Bool) (x : ℕ) (y : ℤ) (ys : List ℤ) → test x ≡ false → picked test x (y ∷ ys) ≡ picked test (suc x) ys
picked-not test x y ys e = rw e

-- the item is this branch's
pub dealt_this : (ws : List ℕ) (p : ℕ) (xs : List ℤ) (x : ℕ) (out : List ℤ) (y : ℤ) → x < length xs → y ≡ get_or xs x y → nat_eq (branch ws x) p ≡ true
    → DealtSoFar ws p xs x out → DealtSoFar ws p xs (x + 1) (out ++ y ∷ [])
dealt_this ws p xs x out y lt e this f =
    let test = λ (n : ℕ). nat_eq (branch ws n) p in
    append_assoc out (y ∷ []) (picked test (x + 1) (drop (x + 1) xs))
    ∙ ap (λ n. out ++ (y ∷ picked test n (drop (x + 1) xs))) (let s : x + 1 ≡ suc x = omega arith in s)
    ∙ ap (λ l. out ++ l) (sym (picked-this test x y (drop (x + 1) xs) this))
    ∙ ap (λ l. out ++ picked test x l) (sym (drop_next xs x y lt e))
    ∙ f

-- it is another's
pub dealt_other : (ws : List ℕ) (p : ℕ) (xs : List ℤ) (x : ℕ) (out : List ℤ) (y : ℤ) → x < length xs → y ≡ get_or xs x y → nat_eq (branch ws x) p ≡ false
    → DealtSoFar ws p xs x out → DealtSoFar ws p xs (x + 1) out
dealt_other ws p xs x out y lt e this f =
    let test = λ (n : ℕ). nat_eq (branch ws n) p in
    ap (λ n. out ++ picked test n (drop (x + 1) xs)) (let s : x + 1 ≡ suc x = omega arith in s)
    ∙ ap (λ l. out ++ l) (sym (picked-not test x y (drop (x + 1) xs) this))
    ∙ ap (λ l. out ++ picked test x l) (sym (drop_next xs x y lt e))
    ∙ f

pub dealt_end : (ws : List ℕ) (p : ℕ) (xs : List ℤ) (x : ℕ) (out : List ℤ) → length xs ≤ x → DealtSoFar ws p xs x out → out ≡ dealt ws p xs
dealt_end ws p xs x out le f =
    let test = λ (n : ℕ). nat_eq (branch ws n) p in
    sym (append-nil out) ∙ ap (λ l. out ++ picked test x l) (sym (drop_all x xs le)) ∙ f

-- WHAT IS COLLECTED

-- what was collected, and what is collected from place x on
abbrev pub CollectedSoFar : List ℕ → List (List ℤ) → ℕ → ℕ → List ℤ → Type 0
CollectedSoFar ws ls size x out = out ++ found_front (collected_at ws ls) (size - x) x ≡ found_front (collected_at ws ls) size 0

-- one item more is there
pub collected_more : (ws : List ℕ) (ls : List (List ℤ)) (size x : ℕ) (out : List ℤ) (y : ℤ) → x < size → collected_at ws ls x ≡ Some y
    → CollectedSoFar ws ls size x out → CollectedSoFar ws ls size (x + 1) (out ++ y ∷ [])
collected_more ws ls size x out y lt e f =
    let at = collected_at ws ls in
    append_assoc out (y ∷ []) (found_front at (size - (x + 1)) (x + 1))
    ∙ ap (λ n. out ++ (y ∷ found_front at (size - (x + 1)) n)) (let s : x + 1 ≡ suc x = omega arith in s)
    ∙ ap (λ o. out ++ and_more o (found_front at (size - (x + 1)) (suc x))) (sym e)
    ∙ ap (λ n. out ++ found_front at n x) (sym (one_less size x lt))
    ∙ f

-- no item more is there
pub collected_none : (ws : List ℕ) (ls : List (List ℤ)) (size x : ℕ) (out : List ℤ) → x < size → collected_at ws ls x ≡ None → CollectedSoFar ws ls size x out
    → out ≡ found_front (collected_at ws ls) size 0
collected_none ws ls size x out lt e f =
    let at = collected_at ws ls in
    sym (append-nil out)
    ∙ ap (λ o. out ++ and_more o (found_front at (size - (x + 1)) (suc x))) (sym e)
    ∙ ap (λ n. out ++ found_front at n x) (sym (one_less size x lt))
    ∙ f

pub collected_end : (ws : List ℕ) (ls : List (List ℤ)) (size x : ℕ) (out : List ℤ) → size ≤ x → CollectedSoFar ws ls size x out
    → out ≡ found_front (collected_at ws ls) size 0
collected_end ws ls size x out le f =
    sym (append-nil out) ∙ ap (λ n. out ++ found_front (collected_at ws ls) n x) (let z : 0 ≡ size - x = omega (arith, le) in z) ∙ f

-- how many items the lists have that are left
pub size-from : (ls : List (List ℤ)) (i : ℕ) (l : List ℤ) → i < length ls → l ≡ get_or ls i l → size_of (drop i ls) ≡ length l + size_of (drop (i + 1) ls)
size-from ls i l lt e = ap size_of (drop_next ls i l lt e)

pub size-none : (ls : List (List ℤ)) (i : ℕ) → length ls ≤ i → size_of (drop i ls) ≡ 0
size-none ls i le = ap size_of (drop_all i ls le)
