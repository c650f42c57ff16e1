-- Rows whose first value and another one change places, and bags of them.
use Rattle.std.proofs.Common.{◌≡◌, ◌<◌, ◌≤◌, ℕ, zero, suc, ℤ, pos, Bool, true, false, cond, List, [], ◌∷◌, ◌++◌, length, set, map, take, filter, refl, sym, ap, ◌∙◌, arith, subst}
use Rattle.std.specs.Prelude.{All, Contains, Option, None, Some, MatchOption, nat_lt}
use Rattle.std.proofs.lemmas.List.Sorted.{sum_by-IsPermutation, All-permutation}
use Rattle.std.specs.Ordering.{int_eq}
use Rattle.std.proofs.lemmas.Bool.{true≢false}
use Rattle.std.proofs.lemmas.List.{length-set, get_or_append_left}
use Rattle.std.proofs.Math.Seq.{take-append_seam}
use Rattle.std.proofs.lemmas.List.Elements.{All-head, All-tail}
use Rattle.river_base.specs.Row.{row_eq, copies}
use Rattle.river_base.proofs.Counts.{same_row, row_itself, permutation_from_copies}
use Rattle.river_base.proofs.Tests.{lt_by, lt_true, lt_false}
use Rattle.kern_changes.specs.Counted.{AreSame, CameOne, WentOne, CameAll}
use Rattle.kern_changes.specs.Keyed.{at_place, turned, begins, begun, rows_with}
use Rattle.kern_changes.proofs.Copies.{count-map, sum-cong}
use Rattle.kern_changes.proofs.Leading.{sum-filter}

-- ONE ROW

set_set : (xs : List ℤ) (k : ℕ) (x y : ℤ) → set (set xs k x) k y ≡ set xs k y
set_set [] k x y = refl
set_set (z ∷ zs) zero x y = refl
set_set (z ∷ zs) (suc k) x y = ap (λ l. z ∷ l) (set_set zs k x y)

set_same : (xs : List ℤ) (k : ℕ) → set xs k (at_place k xs) ≡ xs
set_same [] k = refl
set_same (z ∷ zs) zero = refl
set_same (z ∷ zs) (suc k) = ap (λ l. z ∷ l) (set_same zs k)

got_set : (xs : List ℤ) (k : ℕ) (x : ℤ) → k < length xs → at_place k (set xs k x) ≡ x
got_set [] k x h = absurd (omega (arith, h))
got_set (z ∷ zs) zero x h = refl
got_set (z ∷ zs) (suc k) x h = got_set zs k x (omega (arith, h))

set_front : (xs zs : List ℤ) (k : ℕ) (x : ℤ) → k < length xs → set (xs ++ zs) k x ≡ set xs k x ++ zs
set_front [] zs k x h = absurd (omega (arith, h))
set_front (y ∷ ys) zs zero x h = refl
set_front (y ∷ ys) zs (suc k) x h = ap (λ l. y ∷ l) (set_front ys zs k x (omega (arith, h)))

-- a copy of the row at the begin of a list, in which the two change places
pub turned_copy : (k : ℕ) (xs zs : List ℤ) → 0 < k → k < length xs
    → set (set (xs ++ zs) 0 (at_place k (xs ++ zs))) k (at_place 0 (xs ++ zs)) ≡ turned k xs ++ zs
turned_copy zero xs zs p h = absurd (omega (arith, p))
turned_copy (suc k) [] zs p h = absurd (omega (arith, h))
turned_copy (suc k) (x ∷ xs) zs p h =
    let lt : k < length xs = omega (arith, h) in
    ap (λ v. v ∷ set (xs ++ zs) k x) (get_or_append_left xs zs (pos 0) k lt) ∙ ap (λ l. at_place k xs ∷ l) (set_front xs zs k x lt)
    ∙ sym (ap (λ b. cond b (at_place k xs ∷ set xs k x) (x ∷ xs) ++ zs) (lt_true k (length xs) lt))

-- a row that has no such place
pub turned_not : (k : ℕ) (xs : List ℤ) → length xs ≤ k → turned k xs ≡ xs
turned_not zero xs h = refl
turned_not (suc k) [] h = refl
turned_not (suc k) (x ∷ xs) h = ap (λ b. cond b (at_place k xs ∷ set xs k x) (x ∷ xs)) (lt_false k (length xs) (omega (arith, h)))

-- as wide as before
pub turned-length : (k : ℕ) (row : List ℤ) → length (turned k row) ≡ length row
turned-length zero row = refl
turned-length (suc k) [] = refl
turned-length (suc k) (x ∷ xs) = step (nat_lt k (length xs)) where
  step : (b : Bool) → length (cond b (at_place k xs ∷ set xs k x) (x ∷ xs)) ≡ suc (length xs)
  step true = ap suc (length-set xs k x)
  step false = refl

-- the front of the list that it was put into
pub taken_back : (k : ℕ) (row all : List ℤ) → take (length row) (turned k row ++ all) ≡ turned k row
taken_back k row all = ap (λ n. take n (turned k row ++ all)) (sym (turned-length k row)) ∙ take-append_seam (turned k row) all

-- twice is not at all
pub turned_twice : (k : ℕ) (row : List ℤ) → turned k (turned k row) ≡ row
turned_twice zero row = refl
turned_twice (suc k) [] = refl
turned_twice (suc k) (x ∷ xs) = step (nat_lt k (length xs)) refl where
  again : nat_lt k (length xs) ≡ true → turned (suc k) (at_place k xs ∷ set xs k x) ≡ x ∷ xs
  again e =
      let l : nat_lt k (length (set xs k x)) ≡ true = ap (nat_lt k) (length-set xs k x) ∙ e in
      ap (λ b. cond b (at_place k (set xs k x) ∷ set (set xs k x) k (at_place k xs)) (at_place k xs ∷ set xs k x)) l
      ∙ (λ i. got_set xs k x (lt_by k (length xs) e) i ∷ (set_set xs k x (at_place k xs) ∙ set_same xs k) i)

  step : (b : Bool) → nat_lt k (length xs) ≡ b → turned (suc k) (cond b (at_place k xs ∷ set xs k x) (x ∷ xs)) ≡ x ∷ xs
  step true e = again e
  step false e = ap (λ b. cond b (at_place k xs ∷ set xs k x) (x ∷ xs)) e

-- the value of the column is in front
pub turned_begins : (k : ℕ) (row : List ℤ) (value : ℤ) → k < length row → begins value (turned k row) ≡ int_eq (at_place k row) value
turned_begins k [] value h = absurd (omega (arith, h))
turned_begins zero (x ∷ xs) value h = refl
turned_begins (suc k) (x ∷ xs) value h =
    ap (λ b. begins value (cond b (at_place k xs ∷ set xs k x) (x ∷ xs))) (lt_true k (length xs) (omega (arith, h)))

-- a row is a turned one where the turned row is that one
turned_eq : (k : ℕ) (r x : List ℤ) → row_eq r (turned k x) ≡ row_eq (turned k r) x
turned_eq k r x = step (row_eq r (turned k x)) refl (row_eq (turned k r) x) refl where
  step : (b : Bool) → row_eq r (turned k x) ≡ b → (c : Bool) → row_eq (turned k r) x ≡ c → b ≡ c
  step true e true g = refl
  step false e false g = refl
  step true e false g =
      let s : turned k r ≡ x = ap (turned k) (same_row r (turned k x) e) ∙ turned_twice k x in
      absurd (true≢false (sym (row_itself x) ∙ ap (λ l. row_eq l x) (sym s) ∙ g))
  step false e true g =
      let s : r ≡ turned k x = sym (turned_twice k r) ∙ ap (turned k) (same_row (turned k r) x g) in
      absurd (true≢false (sym (row_itself (turned k x)) ∙ ap (λ l. row_eq l (turned k x)) (sym s) ∙ e))

-- BAGS

-- turned rows by copies
pub copies-turned : (k : ℕ) (r : List ℤ) (rows : List (List ℤ)) → copies r (map (turned k) rows) ≡ copies (turned k r) rows
copies-turned k r rows =
    count-map (row_eq r) (turned k) rows
    ∙ sum-cong (λ x. cond (row_eq r (turned k x)) 1 0) (λ x. cond (row_eq (turned k r) x) 1 0) rows (λ x. ap (λ b. cond b 1 0) (turned_eq k r x))

pub map_twice : (k : ℕ) (rows : List (List ℤ)) → map (turned k) (map (turned k) rows) ≡ rows
map_twice k [] = refl
map_twice k (x ∷ xs) = λ i. turned_twice k x i ∷ map_twice k xs i

abbrev one : List ℤ → List ℤ → ℕ
one r x = cond (row_eq r x) 1 0

one_turned : (k : ℕ) (r row : List ℤ) → one (turned k r) (turned k row) ≡ one r row
one_turned k r row = ap (λ b. cond b 1 0) (sym (turned_eq k r (turned k row)) ∙ ap (row_eq r) (turned_twice k row))

-- one more row came, since its turned one did
pub came_turned : (k : ℕ) (row : List ℤ) (old new : List (List ℤ)) → CameOne (turned k row) old new → CameOne row (map (turned k) old) (map (turned k) new)
came_turned k row old new h = record {
  each = λ r.
      let a = copies-turned k r old in let b = copies-turned k r new in let e = h.each (turned k r) in let o = one_turned k r row in
      omega (arith, a, b, e, o);
}

-- one row less
pub went_turned : (k : ℕ) (row : List ℤ) (old new : List (List ℤ)) → WentOne (turned k row) old new → WentOne row (map (turned k) old) (map (turned k) new)
went_turned k row old new h = record {
  each = λ r.
      let a = copies-turned k r old in let b = copies-turned k r new in let e = h.each (turned k r) in let o = one_turned k r row in
      omega (arith, a, b, e, o);
}

-- the rows with a value in a column are those that begin with it when they are turned
pub found_turned : (k : ℕ) (value : ℤ) (rows : List (List ℤ)) → All (λ row. k < length row) (map (turned k) rows)
    → map (turned k) (begun value rows) ≡ rows_with k value (map (turned k) rows)
found_turned k value [] h = refl
found_turned k value (x ∷ xs) h =
    step (begins value x) refl
    (found_turned k value xs (All-tail (λ row. k < length row) (turned k x) (map (turned k) xs) h))
  where
    wide : k < length (turned k x)
    wide = All-head (λ row. k < length row) (turned k x) (map (turned k) xs) h

    is : begins value x ≡ int_eq (at_place k (turned k x)) value
    is = ap (begins value) (sym (turned_twice k x)) ∙ turned_begins k (turned k x) value wide

    rest : List (List ℤ)
    rest = rows_with k value (map (turned k) xs)

    step : (b : Bool) → begins value x ≡ b → map (turned k) (begun value xs) ≡ rest
        → map (turned k) (cond b (x ∷ begun value xs) (begun value xs)) ≡ cond (int_eq (at_place k (turned k x)) value) (turned k x ∷ rest) rest
    step true e more = ap (λ l. turned k x ∷ l) more ∙ sym (ap (λ b. cond b (turned k x ∷ rest) rest) (sym is ∙ e))
    step false e more = more ∙ sym (ap (λ b. cond b (turned k x ∷ rest) rest) (sym is ∙ e))

-- turned by one column and kept by another
pub turned_anew : (from to : ℕ) (old rows rows' slice none new : List (List ℤ)) → rows ≡ map (turned from) old → rows' ≡ map (turned to) rows → slice ≡ rows'
    → none ≡ [] → CameAll slice none new → AreSame (map (turned from) old) (map (turned to) new)
turned_anew from to old rows rows' slice none new a b s n h = record {
  each = λ r.
      let e = h.each (turned to r) in
      let z : copies (turned to r) none ≡ 0 = ap (copies (turned to r)) n in
      let d : copies (turned to r) slice ≡ copies r (map (turned from) old) =
      ap (copies (turned to r)) (s ∙ b) ∙ copies-turned to (turned to r) rows ∙ ap (λ x. copies x rows) (turned_twice to r) ∙ ap (copies r) a in
      let g = copies-turned to r new in
      omega (arith, e, z, d, g);
}

-- turned rows are as wide as the rows
pub lengths-turned : (k : ℕ) (rows : List (List ℤ)) → map length (map (turned k) rows) ≡ map length rows
lengths-turned k [] = refl
lengths-turned k (x ∷ xs) = λ i. turned-length k x i ∷ lengths-turned k xs i

-- so is some row
pub width_turned : (k : ℕ) (rows self : List (List ℤ)) (o : Option ℕ) → map (turned k) rows ≡ self
    → MatchOption o (rows ≡ []) (λ w. Contains (map length rows) w) → MatchOption o (self ≡ []) (λ w. Contains (map length self) w)
width_turned k rows self None e h = sym e ∙ ap (map (turned k)) h
width_turned k rows self (Some w) e h = subst (λ l. Contains l w) (sym (lengths-turned k rows) ∙ ap (map length) e) h

-- what passes a test of one bag
pub same_filter : (p : List ℤ → Bool) (xs ys : List (List ℤ)) → AreSame xs ys → AreSame (filter p xs) (filter p ys)
same_filter p xs ys h = record {
  each = λ r.
      sum-filter (λ x. cond (row_eq r x) 1 0) p xs
      ∙ sym (sum_by-IsPermutation (λ x. cond (p x) (cond (row_eq r x) 1 0) 0) xs ys (permutation_from_copies xs ys h.each))
      ∙ sym (sum-filter (λ x. cond (row_eq r x) 1 0) p ys);
}

-- the rows that were found have the value in the column
pub found_is : (k from : ℕ) (v : ℤ) (self content content' empty pushed found : List (List ℤ)) → map (turned from) content ≡ self
    → AreSame (map (turned from) content) (map (turned k) content') → All (λ row. k < length row) self → empty ≡ [] → pushed ≡ empty ++ begun v content'
    → found ≡ map (turned k) pushed → AreSame found (rows_with k v self)
found_is k from v self content content' empty pushed found view same wide none p f =
    let s : AreSame self (map (turned k) content') = subst (λ l. AreSame l (map (turned k) content')) view same in
    let w : All (λ row. k < length row) (map (turned k) content') =
    All-permutation (λ (row : List ℤ). k < length row) self (map (turned k) content') (permutation_from_copies self (map (turned k) content') s.each) wide in
    let is : found ≡ rows_with k v (map (turned k) content') =
    f ∙ ap (map (turned k)) (p ∙ ap (λ l. l ++ begun v content') none) ∙ found_turned k v content' w in
    let back = same_filter (λ row. int_eq (at_place k row) v) self (map (turned k) content') s in
    record { each = λ r. ap (copies r) is ∙ sym (back.each r) }
