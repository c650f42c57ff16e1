-- Bags by the number of copies of each row.
use Rattle.std.proofs.Common.{◌≡◌, ℕ, suc, ◌+◌, ◌-◌, ◌*◌, ℤ, Bool, true, false, cond, List, [], ◌∷◌, replicate, Some, unwrap_or, Ordering, refl, ap, ◌∙◌, arith}
use Rattle.std.specs.declared.cmp.Ordering.TheVariants.{Less, Equal, Greater}
use Rattle.std.specs.Ordering.{match_ordering, is_eq}
use Rattle.std.specs.BTreeMap.{is_at, insert_entry}
use Rattle.std.specs.List.{AllByRecursion}
use Rattle.std.specs.List.Sorted.{IsStrictlySortedBy}
use Rattle.std.specs.Map.{keys_of, lookup, remove_entry}
use Rattle.std.proofs.lemmas.List.Sums.{sum_by-append}
use Rattle.std.proofs.lemmas.List.Folds.{sum_by-replicate}
use Rattle.river_base.specs.Row.{row_eq, row_cmp, row_total, row_ties, copies}
use Rattle.river_base.proofs.Rows.{exact_rows}
use Rattle.river_base.proofs.Counts.{same_row}
use Rattle.kern_changes.specs.Counted.{rows_counted, CameOne, WentOne}

abbrev one : List ℤ → List ℤ → ℕ
one r x = cond (row_eq r x) 1 0

abbrev Counts : Type 0
Counts = List (List ℤ × ℕ)

-- copies of a row, with one more entry
pub counted-cons : (r : List ℤ) (e : List ℤ × ℕ) (es : Counts) → copies r (rows_counted (e ∷ es)) ≡ e.1 * one r e.0 + copies r (rows_counted es)
counted-cons r e es = sum_by-append (one r) (replicate e.1 e.0) (rows_counted es) ∙ ap (λ n. n + copies r (rows_counted es)) (sum_by-replicate (one r) e.1 e.0)

-- a row below all keys is not there
none_below : (k : List ℤ) (es : Counts) → AllByRecursion (λ z. row_cmp k z ≡ Less) (keys_of es) → copies k (rows_counted es) ≡ 0
none_below k [] a = refl
none_below k (e ∷ es) a =
    let c = counted-cons k e es in
    let o : one k e.0 ≡ 0 = ap (λ b. cond b 1 0) (row_ties k e.0 ∙ ap is_eq a.0) in
    let m : e.1 * one k e.0 ≡ 0 = ap (λ n. e.1 * n) o ∙ grind arith in
    let more = none_below k es a.1 in
    omega (arith, c, m, more)

below_all : (k x : List ℤ) (ks : List (List ℤ)) → row_cmp k x ≡ Less → AllByRecursion (λ z. row_cmp x z ≡ Less) ks → AllByRecursion (λ z. row_cmp k z ≡ Less) ks
below_all k x [] h a = tt
below_all k x (z ∷ zs) h a = (row_total.trans k x z h a.0, below_all k x zs h a.1)

-- how often a row is there is what the look-up finds
pub count_is : (k : List ℤ) (es : Counts) → IsStrictlySortedBy row_cmp (keys_of es) → copies k (rows_counted es) ≡ unwrap_or (lookup (is_at (row_cmp k)) es) 0
unfolding IsStrictlySortedBy
count_is k [] s = refl
count_is k (e ∷ es) s = step (row_cmp k e.0) refl (count_is k es s.1) where
  step : (r : Ordering) → row_cmp k e.0 ≡ r → copies k (rows_counted es) ≡ unwrap_or (lookup (is_at (row_cmp k)) es) 0
      → copies k (rows_counted (e ∷ es)) ≡ unwrap_or (cond (is_eq r) (Some e.1) (lookup (is_at (row_cmp k)) es)) 0
  step Equal h more =
      let same : k ≡ e.0 = exact_rows k e.0 h in
      let c = counted-cons k e es in
      let o : one k e.0 ≡ 1 = ap (λ b. cond b 1 0) (row_ties k e.0 ∙ ap is_eq h) in
      let m : e.1 * one k e.0 ≡ e.1 = ap (λ n. e.1 * n) o ∙ grind arith in
      let n : copies k (rows_counted es) ≡ 0 = ap (λ x. copies x (rows_counted es)) same ∙ none_below e.0 es s.0 in
      omega (arith, c, m, n)
  step Less h more =
      let c = counted-cons k e es in
      let o : one k e.0 ≡ 0 = ap (λ b. cond b 1 0) (row_ties k e.0 ∙ ap is_eq h) in
      let m : e.1 * one k e.0 ≡ 0 = ap (λ n. e.1 * n) o ∙ grind arith in
      let d : copies k (rows_counted (e ∷ es)) ≡ copies k (rows_counted es) = omega (arith, c, m) in
      d ∙ more
  step Greater h more =
      let c = counted-cons k e es in
      let o : one k e.0 ≡ 0 = ap (λ b. cond b 1 0) (row_ties k e.0 ∙ ap is_eq h) in
      let m : e.1 * one k e.0 ≡ 0 = ap (λ n. e.1 * n) o ∙ grind arith in
      let d : copies k (rows_counted (e ∷ es)) ≡ copies k (rows_counted es) = omega (arith, c, m) in
      d ∙ more

-- a number in place of that of a row
pub count_set : (k : List ℤ) (n : ℕ) (es : Counts) → IsStrictlySortedBy row_cmp (keys_of es)
    → (r : List ℤ) → copies r (rows_counted (insert_entry row_cmp es k n)) + copies k (rows_counted es) * one r k ≡ copies r (rows_counted es) + n * one r k
unfolding IsStrictlySortedBy
count_set k n [] s r = let c = counted-cons r (k, n) [] in omega (arith, c)
count_set k n (e ∷ es) s r = step (row_cmp k e.0) refl (count_set k n es s.1 r) where
  step : (q : Ordering) → row_cmp k e.0 ≡ q → copies r (rows_counted (insert_entry row_cmp es k n)) + copies k (rows_counted es) * one r k
      ≡ copies r (rows_counted es) + n * one r k
      → copies r (rows_counted (match_ordering q ((k, n) ∷ (e ∷ es)) ((e.0, n) ∷ es) (e ∷ insert_entry row_cmp es k n))) + copies k
      (rows_counted (e ∷ es)) * one r k
      ≡ copies r (rows_counted (e ∷ es)) + n * one r k
  step Less h more =
      let c = counted-cons r (k, n) (e ∷ es) in
      let z : copies k (rows_counted (e ∷ es)) ≡ 0 = none_below k (e ∷ es) (h, below_all k e.0 (keys_of es) h s.0) in
      let m : copies k (rows_counted (e ∷ es)) * one r k ≡ 0 = ap (λ x. x * one r k) z ∙ grind arith in
      omega (arith, c, m)
  step Equal h more =
      let same : k ≡ e.0 = exact_rows k e.0 h in
      let c = counted-cons r (e.0, n) es in
      let d = counted-cons r e es in
      let x = counted-cons k e es in
      let o : one k e.0 ≡ 1 = ap (λ b. cond b 1 0) (row_ties k e.0 ∙ ap is_eq h) in
      let m : e.1 * one k e.0 ≡ e.1 = ap (λ n. e.1 * n) o ∙ grind arith in
      let z : copies k (rows_counted es) ≡ 0 = ap (λ y. copies y (rows_counted es)) same ∙ none_below e.0 es s.0 in
      let w : copies k (rows_counted (e ∷ es)) ≡ e.1 = omega (arith, x, m, z) in
      let u : copies k (rows_counted (e ∷ es)) * one r k ≡ e.1 * one r e.0 = (λ i. w i * one r (same i)) in
      let v : n * one r k ≡ n * one r e.0 = ap (λ y. n * one r y) same in
      omega (arith, c, d, u, v)
  step Greater h more =
      let c = counted-cons r e (insert_entry row_cmp es k n) in
      let d = counted-cons r e es in
      let x = counted-cons k e es in
      let o : one k e.0 ≡ 0 = ap (λ b. cond b 1 0) (row_ties k e.0 ∙ ap is_eq h) in
      let m : e.1 * one k e.0 ≡ 0 = ap (λ n. e.1 * n) o ∙ grind arith in
      let w : copies k (rows_counted (e ∷ es)) ≡ copies k (rows_counted es) = omega (arith, x, m) in
      let u : copies k (rows_counted (e ∷ es)) * one r k ≡ copies k (rows_counted es) * one r k = ap (λ y. y * one r k) w in
      omega (arith, c, d, u, more)

-- no number for a row
pub count_removed : (k : List ℤ) (es : Counts) → IsStrictlySortedBy row_cmp (keys_of es)
    → (r : List ℤ) → copies r (rows_counted (remove_entry (is_at (row_cmp k)) es)) + copies k (rows_counted es) * one r k ≡ copies r (rows_counted es)
unfolding IsStrictlySortedBy
count_removed k [] s r = grind arith
count_removed k (e ∷ es) s r = step (row_cmp k e.0) refl (count_removed k es s.1 r) where
  rest : Counts
  rest = remove_entry (is_at (row_cmp k)) es

  other : one k e.0 ≡ 0 → copies r (rows_counted rest) + copies k (rows_counted es) * one r k ≡ copies r (rows_counted es)
      → copies r (rows_counted (e ∷ rest)) + copies k (rows_counted (e ∷ es)) * one r k ≡ copies r (rows_counted (e ∷ es))
  other o more =
      let c = counted-cons r e rest in
      let d = counted-cons r e es in
      let x = counted-cons k e es in
      let m : e.1 * one k e.0 ≡ 0 = ap (λ n. e.1 * n) o ∙ grind arith in
      let w : copies k (rows_counted (e ∷ es)) ≡ copies k (rows_counted es) = omega (arith, x, m) in
      let u : copies k (rows_counted (e ∷ es)) * one r k ≡ copies k (rows_counted es) * one r k = ap (λ y. y * one r k) w in
      omega (arith, c, d, u, more)

  step : (q : Ordering) → row_cmp k e.0 ≡ q → copies r (rows_counted rest) + copies k (rows_counted es) * one r k ≡ copies r (rows_counted es)
      → copies r (rows_counted (cond (is_eq q) es (e ∷ rest))) + copies k (rows_counted (e ∷ es)) * one r k ≡ copies r (rows_counted (e ∷ es))
  step Less h more = other (ap (λ b. cond b 1 0) (row_ties k e.0 ∙ ap is_eq h)) more
  step Equal h more =
      let same : k ≡ e.0 = exact_rows k e.0 h in
      let d = counted-cons r e es in
      let x = counted-cons k e es in
      let o : one k e.0 ≡ 1 = ap (λ b. cond b 1 0) (row_ties k e.0 ∙ ap is_eq h) in
      let m : e.1 * one k e.0 ≡ e.1 = ap (λ n. e.1 * n) o ∙ grind arith in
      let z : copies k (rows_counted es) ≡ 0 = ap (λ y. copies y (rows_counted es)) same ∙ none_below e.0 es s.0 in
      let w : copies k (rows_counted (e ∷ es)) ≡ e.1 = omega (arith, x, m, z) in
      let u : copies k (rows_counted (e ∷ es)) * one r k ≡ e.1 * one r e.0 = (λ i. w i * one r (same i)) in
      omega (arith, d, u)
  step Greater h more = other (ap (λ b. cond b 1 0) (row_ties k e.0 ∙ ap is_eq h)) more

-- one more
pub put_one : (k : List ℤ) (es : Counts) (c : ℕ) → IsStrictlySortedBy row_cmp (keys_of es) → c ≡ copies k (rows_counted es)
    → CameOne k (rows_counted es) (rows_counted (insert_entry row_cmp es k (c + 1)))
put_one k es c s h = record {
  each = λ r.
      let a = count_set k (c + 1) es s r in
      let b : (c + 1) * one r k ≡ c * one r k + one r k = grind arith in
      let d : c * one r k ≡ copies k (rows_counted es) * one r k = ap (λ n. n * one r k) h in
      omega (arith, a, b, d);
}

-- one less
pub take_one : (k : List ℤ) (es : Counts) (c : ℕ) → IsStrictlySortedBy row_cmp (keys_of es) → suc c ≡ copies k (rows_counted es)
    → WentOne k (rows_counted es) (rows_counted (insert_entry row_cmp es k c))
take_one k es c s h = record {
  each = λ r.
      let a = count_set k c es s r in
      let b : suc c * one r k ≡ c * one r k + one r k = grind arith in
      let d : suc c * one r k ≡ copies k (rows_counted es) * one r k = ap (λ n. n * one r k) h in
      omega (arith, a, b, d);
}

-- the last one
pub take_last : (k : List ℤ) (es : Counts) → IsStrictlySortedBy row_cmp (keys_of es) → 1 ≡ copies k (rows_counted es)
    → WentOne k (rows_counted es) (rows_counted (remove_entry (is_at (row_cmp k)) es))
take_last k es s h = record {
  each = λ r.
      let a = count_removed k es s r in
      let d : 1 * one r k ≡ copies k (rows_counted es) * one r k = ap (λ n. n * one r k) h in
      omega (arith, a, d);
}

-- none is there to go
pub take_none : (k : List ℤ) (rows : List (List ℤ)) → 0 ≡ copies k rows → WentOne k rows rows
take_none k rows h = record { each = λ r. step r (row_eq r k) refl } where
  step : (r : List ℤ) (b : Bool) → row_eq r k ≡ b → copies r rows ≡ copies r rows - cond b 1 0
  step r true e = let s : copies r rows ≡ copies k rows = ap (λ x. copies x rows) (same_row r k e) in omega (arith, s, h)
  step r false e = omega arith
