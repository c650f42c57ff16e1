-- Bags of pairs that pass: rows of the one side, one by one, meet the rows of the other that can pass.
use Rattle.std.proofs.Common.{◌≡◌, ◌<◌, ◌≤◌, ◌+◌, ◌-◌, ℕ, ℤ, Bool, true, false, cond, List, [], ◌∷◌, ◌++◌, length, get_or, map, take, refl, sym, ap, ◌∙◌, arith, subst, append_assoc, length-append}
use Rattle.std.specs.Prelude.{All, Contains, sum_by}
use Rattle.std.specs.Ordering.{int_eq}
use Rattle.std.proofs.lemmas.Bool.{true≢false}
use Rattle.std.proofs.lemmas.Cmp.{int_eq_equiv}
use Rattle.std.proofs.lemmas.List.{take_more, append-nil, map-append}
use Rattle.std.proofs.lemmas.List.Elements.{filter-append, All-head, All-tail, All-cons, All-nil, All-filter, All-contains}
use Rattle.std.proofs.lemmas.List.Sums.{sum_by-append, sum_by-cons}
use Rattle.std.proofs.lemmas.List.Sorted.{sum_by-IsPermutation, All-permutation}
use Rattle.river_base.specs.Changes.{all_pairs, cancelled}
use Rattle.river_base.specs.Held.{HaveWidth}
use Rattle.river_base.specs.Row.{row_eq, copies}
use Rattle.river_base.specs.declared.item.Change.{Change}
use Rattle.river_base.proofs.Counts.{permutation_from_copies}
use Rattle.river_base.proofs.Lists.{count_by-append}
use Rattle.work_code.specs.Term.{Term}
use Rattle.work_code.specs.Value.{val, is_true, IsWithin}
use Rattle.kern_changes.specs.Counted.{AreSame}
use Rattle.kern_changes.specs.Counted as counted
use Rattle.kern_changes.specs.Keyed.{at_place, rows_with}
use Rattle.kern_changes.proofs.Copies.{sum-cong}
use Rattle.kern_changes.proofs.Widths.{wide_changed}
use Rattle.kern_changes.proofs.Leading.{sum-map, sum-filter, sum-pairs, sum-plus, same_difference}
use Rattle.kern_bags.specs.Contents.{selected}
use Rattle.kern_bags.specs.Following.{CrossKept}
use Rattle.kern_bags.specs.Joined.{kept_of, HoldsEqual, CanPair, CanPairOf, CanPairRight, CanPairLeft, CanMakeWhere, JoinsWhere}
use Rattle.kern_bags.proofs.JoinLaws.{one_row, passes_alike, selections_cancel}

abbrev test : Term → List ℤ → Bool
test t row = is_true (val t row [])

-- BAGS

pub same_self : (xs : List (List ℤ)) → AreSame xs xs
same_self xs = record { each = λ row. refl }

pub same_by : (xs ys : List (List ℤ)) → xs ≡ ys → AreSame xs ys
same_by xs ys e = record { each = λ row. ap (copies row) e }

pub same_trans : (xs ys zs : List (List ℤ)) → AreSame xs ys → AreSame ys zs → AreSame xs zs
same_trans xs ys zs h g = record { each = λ row. h.each row ∙ g.each row }

pub same_back : (xs ys : List (List ℤ)) → AreSame xs ys → AreSame ys xs
same_back xs ys h = record { each = λ row. sym (h.each row) }

pub same_append : (xs ys us vs : List (List ℤ)) → AreSame xs us → AreSame ys vs → AreSame (xs ++ ys) (us ++ vs)
same_append xs ys us vs h g = record {
  each = λ row. count_by-append (row_eq row) xs ys ∙ (λ i. h.each row i + g.each row i) ∙ sym (count_by-append (row_eq row) us vs);
}

same_sum : (f : List ℤ → ℕ) (xs ys : List (List ℤ)) → AreSame xs ys → sum_by f xs ≡ sum_by f ys
same_sum f xs ys h = sym (sum_by-IsPermutation f xs ys (permutation_from_copies xs ys h.each))

-- how a row counts among the pairs that pass
abbrev weight : Term → List ℤ → List ℤ → ℕ
weight t row x = cond (test t x) (cond (row_eq row x) 1 0) 0

kept_copies : (t : Term) (row : List ℤ) (xs : List (List ℤ)) → copies row (selected t xs) ≡ sum_by (weight t row) xs
kept_copies t row xs = sum-filter (λ x. cond (row_eq row x) 1 0) (test t) xs

-- what is kept of one bag
pub same_kept : (t : Term) (xs ys : List (List ℤ)) → AreSame xs ys → AreSame (selected t xs) (selected t ys)
same_kept t xs ys h = record { each = λ row. kept_copies t row xs ∙ same_sum (weight t row) xs ys h ∙ sym (kept_copies t row ys) }

-- images of one bag
pub same_map : (g : List ℤ → List ℤ) (xs ys : List (List ℤ)) → AreSame xs ys → AreSame (map g xs) (map g ys)
same_map g xs ys h = record {
  each = λ row. sum-map (λ x. cond (row_eq row x) 1 0) g xs ∙ same_sum (λ x. cond (row_eq row (g x)) 1 0) xs ys h
      ∙ sym (sum-map (λ x. cond (row_eq row x) 1 0) g ys);
}

-- pairs, where the one side is the same bag
pub same_pairs_left : (xs ys zs : List (List ℤ)) → AreSame xs ys → AreSame (all_pairs xs zs) (all_pairs ys zs)
same_pairs_left xs ys zs h = record {
  each = λ row.
      let f : List ℤ → ℕ = λ x. cond (row_eq row x) 1 0 in
      sum-pairs f xs zs ∙ same_sum (λ x. sum_by (λ y. f (x ++ y)) zs) xs ys h ∙ sym (sum-pairs f ys zs);
}

pub same_pairs_right : (xs ys zs : List (List ℤ)) → AreSame ys zs → AreSame (all_pairs xs ys) (all_pairs xs zs)
same_pairs_right xs ys zs h = record {
  each = λ row.
      let f : List ℤ → ℕ = λ x. cond (row_eq row x) 1 0 in
      sum-pairs f xs ys ∙ sum-cong (λ x. sum_by (λ y. f (x ++ y)) ys) (λ x. sum_by (λ y. f (x ++ y)) zs) xs (λ x. same_sum (λ y. f (x ++ y)) ys zs h)
      ∙ sym (sum-pairs f xs zs);
}

-- the change that rows make depends on their bags alone
pub same_cancelled : (at : ℤ) (plus plus' minus minus' : List (List ℤ)) → AreSame plus plus' → AreSame minus minus'
    → cancelled at plus minus ≡ cancelled at plus' minus'
same_cancelled at plus plus' minus minus' h g =
    let p = same_difference plus minus plus' minus' (λ row. λ i. h.each row i - g.each row i) in
    let m = same_difference minus plus minus' plus' (λ row. λ i. g.each row i - h.each row i) in
    λ i. record { at = at; plus = p i; minus = m i }

-- ROWS OF THE LEFT, ONE BY ONE

-- one row more has met what it finds
pub left_more : (t : Term) (lefts rights start old found new : List (List ℤ)) (i : ℕ) (x : List ℤ) → i < length lefts → x ≡ get_or lefts i x
    → AreSame old (start ++ selected t (all_pairs (take i lefts) rights))
    → AreSame (selected t (map (λ y. x ++ y) found)) (selected t (map (λ y. x ++ y) rights))
    → new ≡ old ++ selected t (map (λ y. x ++ y) found)
    → AreSame new (start ++ selected t (all_pairs (take (i + 1) lefts) rights))
left_more t lefts rights start old found new i x lt is o f e = record {
  each = λ row.
      let w = weight t row in
      let over : List ℤ → ℕ = λ z. sum_by (λ y. w (z ++ y)) rights in
      let a = ap (copies row) e ∙ count_by-append (row_eq row) old (selected t (map (λ y. x ++ y) found)) in
      let b = o.each row in
      let c = count_by-append (row_eq row) start (selected t (all_pairs (take i lefts) rights)) in
      let d = count_by-append (row_eq row) start (selected t (all_pairs (take (i + 1) lefts) rights)) in
      let g = f.each row in
      let h : copies row (selected t (map (λ y. x ++ y) rights)) ≡ over x = kept_copies t row (map (λ y. x ++ y) rights) ∙ sum-map w (λ y. x ++ y) rights in
      let k = kept_copies t row (all_pairs (take i lefts) rights) ∙ sum-pairs w (take i lefts) rights in
      let l = kept_copies t row (all_pairs (take (i + 1) lefts) rights) ∙ sum-pairs w (take (i + 1) lefts) rights in
      let m : sum_by over (take (i + 1) lefts) ≡ sum_by over (take i lefts) + over x =
      ap (sum_by over) (take_more lefts i x lt) ∙ sum_by-append over (take i lefts) (get_or lefts i x ∷ []) ∙ ap (λ z. sum_by over (take i lefts) + sum_by over (z ∷ [])) (sym is)
      ∙ ap (λ n. sum_by over (take i lefts) + n) (sum_by-cons over x []) ∙ grind arith in
      omega (arith, a, b, c, d, g, h, k, l, m);
}

-- what a row finds by the value that it has at one place is what it can pass with
pub found_right : (l : ℕ) (t : Term) (i j : ℕ) (x : List ℤ) (rights now found : List (List ℤ)) → HoldsEqual l t i j → length x ≡ l → AreSame rights now
    → AreSame found (rows_with (j - l) (at_place i x) now) → AreSame (selected t (map (λ y. x ++ y) found)) (selected t (map (λ y. x ++ y) rights))
found_right l t i j x rights now found h w s f =
    let g : List ℤ → List ℤ = λ y. x ++ y in
    let a = same_kept t (map g found) (map g (rows_with (j - l) (at_place i x) now)) (same_map g found (rows_with (j - l) (at_place i x) now) f) in
    let b = same_by (selected t (map g (rows_with (j - l) (at_place i x) now))) (selected t (map g now)) (sym (one_row l t i j x now h w)) in
    let c = same_kept t (map g now) (map g rights) (same_map g now rights (same_back rights now s)) in
    same_trans (selected t (map g found)) (selected t (map g now)) (selected t (map g rights))
    (same_trans (selected t (map g found)) (selected t (map g (rows_with (j - l) (at_place i x) now))) (selected t (map g now)) a b) c

-- and so is all that is there
pub all_right : (t : Term) (x : List ℤ) (rights now found : List (List ℤ)) → AreSame rights now → found ≡ now
    → AreSame (selected t (map (λ y. x ++ y) found)) (selected t (map (λ y. x ++ y) rights))
all_right t x rights now found s e =
    let g : List ℤ → List ℤ = λ y. x ++ y in
    same_kept t (map g found) (map g rights) (same_map g found rights (same_trans found now rights (same_by found now e) (same_back rights now s)))

-- what was found of one bag was found of the same bag
pub finds_again_right : (t : Term) (x : List ℤ) (rights now found : List (List ℤ)) → AreSame rights now
    → AreSame (selected t (map (λ y. x ++ y) found)) (selected t (map (λ y. x ++ y) now))
    → AreSame (selected t (map (λ y. x ++ y) found)) (selected t (map (λ y. x ++ y) rights))
finds_again_right t x rights now found s f =
    let g : List ℤ → List ℤ = λ y. x ++ y in
    same_trans (selected t (map g found)) (selected t (map g now)) (selected t (map g rights)) f
    (same_kept t (map g now) (map g rights) (same_map g now rights (same_back rights now s)))

pub finds_again_left : (t : Term) (y : List ℤ) (lefts now found : List (List ℤ)) → AreSame lefts now
    → AreSame (selected t (map (λ x. x ++ y) found)) (selected t (map (λ x. x ++ y) now))
    → AreSame (selected t (map (λ x. x ++ y) found)) (selected t (map (λ x. x ++ y) lefts))
finds_again_left t y lefts now found s f =
    let g : List ℤ → List ℤ = λ x. x ++ y in
    same_trans (selected t (map g found)) (selected t (map g now)) (selected t (map g lefts)) f
    (same_kept t (map g now) (map g lefts) (same_map g now lefts (same_back lefts now s)))

-- ROWS OF THE RIGHT, ONE BY ONE

one_column : (l : ℕ) (t : Term) (i j : ℕ) (y : List ℤ) (xs : List (List ℤ)) → HoldsEqual l t i j → HaveWidth l xs
    → selected t (map (λ x. x ++ y) xs) ≡ selected t (map (λ x. x ++ y) (rows_with i (at_place (j - l) y) xs))
one_column l t i j y [] h w = refl
one_column l t i j y (x ∷ xs) h w =
    step (test t (x ++ y)) refl (int_eq (at_place i x) (at_place (j - l) y)) refl (one_column l t i j y xs h (All-tail (λ row. length row ≡ l) x xs w))
  where
    rest : List (List ℤ)
    rest = rows_with i (at_place (j - l) y) xs

    alike : test t (x ++ y) ≡ true → int_eq (at_place i x) (at_place (j - l) y) ≡ true
    alike p = sym (int_eq_equiv.symm (at_place (j - l) y) (at_place i x)) ∙ passes_alike l t i j x y h (All-head (λ row. length row ≡ l) x xs w) p

    step : (b : Bool) → test t (x ++ y) ≡ b → (c : Bool) → int_eq (at_place i x) (at_place (j - l) y) ≡ c
        → selected t (map (λ x. x ++ y) xs) ≡ selected t (map (λ x. x ++ y) rest)
        → cond b ((x ++ y) ∷ selected t (map (λ x. x ++ y) xs)) (selected t (map (λ x. x ++ y) xs))
        ≡ selected t (map (λ x. x ++ y) (cond c (x ∷ rest) rest))
    step true e true g more = ap (λ l. (x ++ y) ∷ l) more ∙ sym (ap (λ b. cond b ((x ++ y) ∷ selected t (map (λ x. x ++ y) rest)) (selected t (map (λ x. x ++ y) rest))) e)
    step true e false g more = absurd (true≢false (sym (alike e) ∙ g))
    step false e true g more = more ∙ sym (ap (λ b. cond b ((x ++ y) ∷ selected t (map (λ x. x ++ y) rest)) (selected t (map (λ x. x ++ y) rest))) e)
    step false e false g more = more

-- one row more has met what it finds
pub right_more : (t : Term) (lefts rights start old found new : List (List ℤ)) (i : ℕ) (y : List ℤ) → i < length rights → y ≡ get_or rights i y
    → AreSame old (start ++ selected t (all_pairs lefts (take i rights)))
    → AreSame (selected t (map (λ x. x ++ y) found)) (selected t (map (λ x. x ++ y) lefts))
    → new ≡ old ++ selected t (map (λ x. x ++ y) found)
    → AreSame new (start ++ selected t (all_pairs lefts (take (i + 1) rights)))
right_more t lefts rights start old found new i y lt is o f e = record {
  each = λ row.
      let w = weight t row in
      let upto : ℕ → List ℤ → ℕ = λ n x. sum_by (λ z. w (x ++ z)) (take n rights) in
      let a = ap (copies row) e ∙ count_by-append (row_eq row) old (selected t (map (λ x. x ++ y) found)) in
      let b = o.each row in
      let c = count_by-append (row_eq row) start (selected t (all_pairs lefts (take i rights))) in
      let d = count_by-append (row_eq row) start (selected t (all_pairs lefts (take (i + 1) rights))) in
      let g = f.each row in
      let h : copies row (selected t (map (λ x. x ++ y) lefts)) ≡ sum_by (λ x. w (x ++ y)) lefts =
      kept_copies t row (map (λ x. x ++ y) lefts) ∙ sum-map w (λ x. x ++ y) lefts in
      let k = kept_copies t row (all_pairs lefts (take i rights)) ∙ sum-pairs w lefts (take i rights) in
      let l = kept_copies t row (all_pairs lefts (take (i + 1) rights)) ∙ sum-pairs w lefts (take (i + 1) rights) in
      let one : (x : List ℤ) → upto (i + 1) x ≡ upto i x + w (x ++ y) = λ x.
      ap (sum_by (λ z. w (x ++ z))) (take_more rights i y lt) ∙ sum_by-append (λ z. w (x ++ z)) (take i rights) (get_or rights i y ∷ [])
      ∙ ap (λ z. upto i x + sum_by (λ z. w (x ++ z)) (z ∷ [])) (sym is) ∙ ap (λ n. upto i x + n) (sum_by-cons (λ z. w (x ++ z)) y []) ∙ grind arith in
      let m = sum-cong (upto (i + 1)) (λ x. upto i x + w (x ++ y)) lefts one ∙ sum-plus (upto i) (λ x. w (x ++ y)) lefts in
      omega (arith, a, b, c, d, g, h, k, l, m);
}

pub found_left : (l : ℕ) (t : Term) (i j : ℕ) (y : List ℤ) (lefts now found : List (List ℤ)) → HoldsEqual l t i j → HaveWidth l now → AreSame lefts now
    → AreSame found (rows_with i (at_place (j - l) y) now) → AreSame (selected t (map (λ x. x ++ y) found)) (selected t (map (λ x. x ++ y) lefts))
found_left l t i j y lefts now found h w s f =
    let g : List ℤ → List ℤ = λ x. x ++ y in
    let a = same_kept t (map g found) (map g (rows_with i (at_place (j - l) y) now)) (same_map g found (rows_with i (at_place (j - l) y) now) f) in
    let b = same_by (selected t (map g (rows_with i (at_place (j - l) y) now))) (selected t (map g now)) (sym (one_column l t i j y now h w)) in
    let c = same_kept t (map g now) (map g lefts) (same_map g now lefts (same_back lefts now s)) in
    same_trans (selected t (map g found)) (selected t (map g now)) (selected t (map g lefts))
    (same_trans (selected t (map g found)) (selected t (map g (rows_with i (at_place (j - l) y) now))) (selected t (map g now)) a b) c

pub all_left : (t : Term) (y : List ℤ) (lefts now found : List (List ℤ)) → AreSame lefts now → found ≡ now
    → AreSame (selected t (map (λ x. x ++ y) found)) (selected t (map (λ x. x ++ y) lefts))
all_left t y lefts now found s e =
    let g : List ℤ → List ℤ = λ x. x ++ y in
    same_kept t (map g found) (map g lefts) (same_map g found lefts (same_trans found now lefts (same_by found now e) (same_back lefts now s)))

-- ONE PAIR OF CHANGES

-- what came of a pair of changes that met the sides so is what is kept of the change of the product
pub joined_change : (t : Term) (c d : Change) (rights lefts lefts' plus plus' minus minus' : List (List ℤ)) → AreSame lefts lefts'
    → AreSame plus (selected t (all_pairs c.plus rights)) → AreSame minus (selected t (all_pairs c.minus rights))
    → AreSame plus' (plus ++ selected t (all_pairs lefts d.plus)) → AreSame minus' (minus ++ selected t (all_pairs lefts d.minus))
    → cancelled c.at plus' minus'
    ≡ kept_of t (cancelled c.at (all_pairs c.plus rights ++ all_pairs lefts' d.plus) (all_pairs c.minus rights ++ all_pairs lefts' d.minus))
joined_change t c d rights lefts lefts' plus plus' minus minus' s p m p' m' =
    same_cancelled c.at plus' (selected t (all_pairs c.plus rights ++ all_pairs lefts' d.plus)) minus' (selected t (all_pairs c.minus rights ++ all_pairs lefts' d.minus))
    (half plus plus' c.plus d.plus p p') (half minus minus' c.minus d.minus m m')
    ∙ sym (selections_cancel t c.at (all_pairs c.plus rights ++ all_pairs lefts' d.plus) (all_pairs c.minus rights ++ all_pairs lefts' d.minus))
  where
    half : (one both came met : List (List ℤ)) → AreSame one (selected t (all_pairs came rights)) → AreSame both (one ++ selected t (all_pairs lefts met))
        → AreSame both (selected t (all_pairs came rights ++ all_pairs lefts' met))
    half one both came met a b =
        let u = selected t (all_pairs came rights) in
        let v = selected t (all_pairs lefts met) in
        let v' = selected t (all_pairs lefts' met) in
        let k = same_kept t (all_pairs lefts met) (all_pairs lefts' met) (same_pairs_left lefts lefts' met s) in
        same_trans both (u ++ v') (selected t (all_pairs came rights ++ all_pairs lefts' met))
        (same_trans both (one ++ v) (u ++ v') b (same_append one v u v' a k))
        (same_by (u ++ v') (selected t (all_pairs came rights ++ all_pairs lefts' met)) (sym (filter-append (test t) (all_pairs came rights) (all_pairs lefts' met))))

-- a change made on a bag is made on the same bag
pub changed_from : (c : Change) (old old' new : List (List ℤ)) → AreSame old old' → counted.Changed c old' new → counted.Changed c old new
changed_from c old old' new s h = record { each = λ r. h.each r ∙ (λ i. sym (s.each r) i - copies r c.minus + copies r c.plus) }

pub changed_to : (c : Change) (old new new' : List (List ℤ)) → AreSame new new' → counted.Changed c old new → counted.Changed c old new'
changed_to c old new new' s h = record { each = λ r. sym (s.each r) ∙ h.each r }

-- WIDTHS

pub wide_same : (w : ℕ) (xs ys : List (List ℤ)) → AreSame xs ys → HaveWidth w xs → HaveWidth w ys
wide_same w xs ys h g = All-permutation (λ (row : List ℤ). length row ≡ w) xs ys (permutation_from_copies xs ys h.each) g

wide_one : (w : ℕ) (xs : List (List ℤ)) (i : ℕ) (x : List ℤ) → HaveWidth w xs → i < length xs → x ≡ get_or xs i x → HaveWidth w (x ∷ [])
wide_one w xs i x h lt is =
    All-cons (λ (row : List ℤ). length row ≡ w) x [] (subst (λ (r : List ℤ). length r ≡ w) (sym is) (h i x lt)) (All-nil (λ (row : List ℤ). length row ≡ w))

wide_found : (w k : ℕ) (v : ℤ) (xs now found : List (List ℤ)) → AreSame xs now → HaveWidth w xs → AreSame found (rows_with k v now) → HaveWidth w found
wide_found w k v xs now found s h f =
    wide_same w (rows_with k v now) found (same_back found (rows_with k v now) f)
    (All-filter (λ row. int_eq (at_place k row) v) (λ (row : List ℤ). length row ≡ w) now (wide_same w xs now s h))

-- a joined row is as wide as the expression may read
pub reads_pair : (t : Term) (x : List ℤ) (ys : List (List ℤ)) (i : ℕ) (y : List ℤ) → CanPair t (x ∷ []) ys → i < length ys → y ≡ get_or ys i y
    → IsWithin (length (x ++ y)) 0 t
reads_pair t x ys i y can lt is =
    let a : length x ≡ can.left = can.lefts 0 x (omega arith) in
    let b : length y ≡ can.right = subst (λ (r : List ℤ). length r ≡ can.right) (sym is) (can.rights i y lt) in
    let c = length-append x y in
    subst (λ n. IsWithin n 0 t) (let e : can.left + can.right ≡ length (x ++ y) = omega (arith, a, b, c) in e) can.reads

pub few_pair : (t : Term) (x : List ℤ) (ys : List (List ℤ)) (i : ℕ) (y : List ℤ) → CanPair t (x ∷ []) ys → i < length ys → y ≡ get_or ys i y
    → length x + length y ≤ 16
few_pair t x ys i y can lt is =
    let a : length x ≡ can.left = can.lefts 0 x (omega arith) in
    let b : length y ≡ can.right = subst (λ (r : List ℤ). length r ≡ can.right) (sym is) (can.rights i y lt) in
    let f = can.few in
    omega (arith, a, b, f)

pub reads_pair_left : (t : Term) (xs : List (List ℤ)) (y : List ℤ) (i : ℕ) (x : List ℤ) → CanPair t xs (y ∷ []) → i < length xs → x ≡ get_or xs i x
    → IsWithin (length (x ++ y)) 0 t
reads_pair_left t xs y i x can lt is =
    let a : length y ≡ can.right = can.rights 0 y (omega arith) in
    let b : length x ≡ can.left = subst (λ (r : List ℤ). length r ≡ can.left) (sym is) (can.lefts i x lt) in
    let c = length-append x y in
    subst (λ n. IsWithin n 0 t) (let e : can.left + can.right ≡ length (x ++ y) = omega (arith, a, b, c) in e) can.reads

pub few_pair_left : (t : Term) (xs : List (List ℤ)) (y : List ℤ) (i : ℕ) (x : List ℤ) → CanPair t xs (y ∷ []) → i < length xs → x ≡ get_or xs i x
    → length x + length y ≤ 16
few_pair_left t xs y i x can lt is =
    let a : length y ≡ can.right = can.rights 0 y (omega arith) in
    let b : length x ≡ can.left = subst (λ (r : List ℤ). length r ≡ can.left) (sym is) (can.lefts i x lt) in
    let f = can.few in
    omega (arith, a, b, f)

-- one row more of a list of pairs that pass
pub join_more : (t : Term) (f : List ℤ → List ℤ) (ys start old new : List (List ℤ)) (i : ℕ) (y : List ℤ) → i < length ys → y ≡ get_or ys i y
    → old ≡ start ++ selected t (map f (take i ys)) → new ≡ old ++ selected t (f y ∷ []) → new ≡ start ++ selected t (map f (take (i + 1) ys))
join_more t f ys start old new i y lt is o e =
    e ∙ ap (λ l. l ++ selected t (f y ∷ [])) o ∙ append_assoc start (selected t (map f (take i ys))) (selected t (f y ∷ []))
    ∙ ap (λ l. start ++ l)
    (sym (filter-append (test t) (map f (take i ys)) (f y ∷ []))
    ∙ ap (λ z. selected t (map f (take i ys) ++ f z ∷ [])) is
    ∙ ap (selected t) (sym (map-append f (take i ys) (get_or ys i y ∷ [])) ∙ ap (map f) (sym (take_more ys i y lt))))

-- one row of a list can be paired with the same bag
pub pair_row : (t : Term) (xs ys ys' : List (List ℤ)) (i : ℕ) (x : List ℤ) → CanPair t xs ys → i < length xs → x ≡ get_or xs i x → AreSame ys ys'
    → CanPair t (x ∷ []) ys'
pair_row t xs ys ys' i x can lt is s = record {
  left = can.left;
  right = can.right;
  few = can.few;
  reads = can.reads;
  lefts = wide_one can.left xs i x can.lefts lt is;
  rights = wide_same can.right ys ys' s can.rights;
}

pub pair_column : (l : ℕ) (t : Term) (xs xs' ys : List (List ℤ)) (i : ℕ) (y : List ℤ) → CanPairOf l t xs ys → i < length ys → y ≡ get_or ys i y → AreSame xs xs'
    → CanPairOf l t xs' (y ∷ [])
pair_column l t xs xs' ys i y can lt is s = record {
  right = can.right;
  few = can.few;
  reads = can.reads;
  lefts = wide_same l xs xs' s can.lefts;
  rights = wide_one can.right ys i y can.rights lt is;
}

-- what was found can be paired too
pub found_can : (t : Term) (x : List ℤ) (rights found : List (List ℤ)) (k : ℕ) (v : ℤ) → CanPair t (x ∷ []) rights → AreSame found (rows_with k v rights)
    → CanPair t (x ∷ []) found
found_can t x rights found k v can f = record {
  left = can.left;
  right = can.right;
  few = can.few;
  reads = can.reads;
  lefts = can.lefts;
  rights = wide_found can.right k v rights rights found (same_self rights) can.rights f;
}

pub found_can_left : (l : ℕ) (t : Term) (y : List ℤ) (lefts found : List (List ℤ)) (k : ℕ) (v : ℤ) → CanPairOf l t lefts (y ∷ []) → AreSame found (rows_with k v lefts)
    → CanPair t found (y ∷ [])
found_can_left l t y lefts found k v can f = record {
  left = l;
  right = can.right;
  few = can.few;
  reads = can.reads;
  lefts = wide_found l k v lefts lefts found (same_self lefts) can.lefts f;
  rights = can.rights;
}

pub all_can_left : (l : ℕ) (t : Term) (y : List ℤ) (lefts found : List (List ℤ)) → CanPairOf l t lefts (y ∷ []) → found ≡ lefts → CanPair t found (y ∷ [])
all_can_left l t y lefts found can e = record {
  left = l;
  right = can.right;
  few = can.few;
  reads = can.reads;
  lefts = subst (HaveWidth l) (sym e) can.lefts;
  rights = can.rights;
}

-- each row at the right has the column
pub column_right : (t : Term) (i j : ℕ) (x : List ℤ) (rights : List (List ℤ)) → HoldsEqual (length x) t i j → CanPair t (x ∷ []) rights
    → All (λ row. j - length x < length row) rights
column_right t i j x rights h can = λ k d lt.
    let a : length x ≡ can.left = can.lefts 0 x (omega arith) in
    let b = can.rights k d lt in
    let r = h.reads (can.left + can.right) 0 can.reads in
    let s = h.second in
    omega (arith, a, b, r, s)

pub column_left : (l : ℕ) (t : Term) (i j : ℕ) (lefts : List (List ℤ)) → HoldsEqual l t i j → HaveWidth l lefts → All (λ row. i < length row) lefts
column_left l t i j lefts h w = λ k d lt. let b = w k d lt in let f = h.first in omega (arith, b, f)

-- and the row of the right has its place
pub place_within : (l : ℕ) (t : Term) (i j : ℕ) (lefts : List (List ℤ)) (y : List ℤ) → HoldsEqual l t i j → CanPairOf l t lefts (y ∷ []) → j - l < length y
place_within l t i j lefts y h can =
    let a : length y ≡ can.right = can.rights 0 y (omega arith) in
    let r = h.reads (l + can.right) 0 can.reads in
    let s = h.second in
    omega (arith, a, r, s)

-- where some row of the left is so wide, all are
pub pair_of : (t : Term) (xs ys : List (List ℤ)) (w : ℕ) → CanPair t xs ys → Contains (map length xs) w → CanPairOf w t xs ys
pair_of t xs ys w can c = subst (λ l. CanPairOf l t xs ys) (is xs can.lefts c) (record {
  right = can.right;
  few = can.few;
  reads = can.reads;
  lefts = can.lefts;
  rights = can.rights;
})
  where
    each : (zs : List (List ℤ)) → HaveWidth can.left zs → All (λ n. can.left ≡ n) (map length zs)
    each [] h = All-nil (λ n. can.left ≡ n)
    each (z ∷ zs) h =
        All-cons (λ n. can.left ≡ n) (length z) (map length zs) (sym (All-head (λ (row : List ℤ). length row ≡ can.left) z zs h))
        (each zs (All-tail (λ (row : List ℤ). length row ≡ can.left) z zs h))

    is : (zs : List (List ℤ)) → HaveWidth can.left zs → Contains (map length zs) w → can.left ≡ w
    is zs h g = All-contains (λ n. can.left ≡ n) (map length zs) w (each zs h) g

-- nothing at the left makes no pair
pub none_left : (t : Term) (lefts ys old : List (List ℤ)) → lefts ≡ [] → AreSame old (old ++ selected t (all_pairs lefts ys))
none_left t lefts ys old e = same_by old (old ++ selected t (all_pairs lefts ys)) (sym (append-nil old) ∙ ap (λ l. old ++ selected t (all_pairs l ys)) (sym e))

-- ONE SIDE AFTER ANOTHER

-- the second part of a change can be paired with the same bag
pub pair_same : (t : Term) (xs ys ys' : List (List ℤ)) → CanPair t xs ys → AreSame ys ys' → CanPair t xs ys'
pair_same t xs ys ys' can s = record {
  left = can.left;
  right = can.right;
  few = can.few;
  reads = can.reads;
  lefts = can.lefts;
  rights = wide_same can.right ys ys' s can.rights;
}

pub pair_of_same : (l : ℕ) (t : Term) (xs xs' ys : List (List ℤ)) → CanPairOf l t xs ys → AreSame xs xs' → CanPairOf l t xs' ys
pair_of_same l t xs xs' ys can s = record {
  right = can.right;
  few = can.few;
  reads = can.reads;
  lefts = wide_same l xs xs' s can.lefts;
  rights = can.rights;
}

-- pairs with the same bag
pub pairs_again_right : (t : Term) (xs ys ys' start new : List (List ℤ)) → AreSame ys ys' → AreSame new (start ++ selected t (all_pairs xs ys'))
    → AreSame new (start ++ selected t (all_pairs xs ys))
pairs_again_right t xs ys ys' start new s h =
    same_trans new (start ++ selected t (all_pairs xs ys')) (start ++ selected t (all_pairs xs ys)) h
    (same_append start (selected t (all_pairs xs ys')) start (selected t (all_pairs xs ys)) (same_self start)
    (same_kept t (all_pairs xs ys') (all_pairs xs ys) (same_pairs_right xs ys' ys (same_back ys ys' s))))

pub pairs_again_left : (t : Term) (xs xs' ys start new : List (List ℤ)) → AreSame xs xs' → AreSame new (start ++ selected t (all_pairs xs' ys))
    → AreSame new (start ++ selected t (all_pairs xs ys))
pairs_again_left t xs xs' ys start new s h =
    same_trans new (start ++ selected t (all_pairs xs' ys)) (start ++ selected t (all_pairs xs ys)) h
    (same_append start (selected t (all_pairs xs' ys)) start (selected t (all_pairs xs ys)) (same_self start)
    (same_kept t (all_pairs xs' ys) (all_pairs xs ys) (same_pairs_left xs' xs ys (same_back xs xs' s))))

-- a pair of changes can be made, so the first can meet the right side
pub makes_right : (t : Term) (c d : Change) (s : CrossKept) → CanMakeWhere t c d s → CanPairRight t c s.rights
makes_right t c d s can = record {
  plus = record { left = can.left; right = can.right; few = can.few; reads = can.reads; lefts = can.first.plus; rights = can.rights };
  minus = record { left = can.left; right = can.right; few = can.few; reads = can.reads; lefts = can.first.minus; rights = can.rights };
}

-- and the second the left side, once the first is made
pub makes_left : (t : Term) (c d : Change) (s : CrossKept) (lefts : List (List ℤ)) → CanMakeWhere t c d s → counted.Changed c s.lefts lefts → CanPairLeft t lefts d
makes_left t c d s lefts can made =
    let wide = wide_changed can.left c s.lefts lefts can.lefts can.first.plus made in
    record {
      plus = record { left = can.left; right = can.right; few = can.few; reads = can.reads; lefts = wide; rights = can.second.plus };
      minus = record { left = can.left; right = can.right; few = can.few; reads = can.reads; lefts = wide; rights = can.second.minus };
    }

-- both were made, and the change was given
pub joins_where : (t : Term) (c d : Change) (left right : List Change) (lefts rights lefts1 rights1 lefts2 rights2 none none' plus plus' minus minus' : List (List ℤ))
    (at : ℤ) (change : Change) (out out' : List Change) → none ≡ [] → none' ≡ [] → at ≡ c.at → AreSame rights rights1
    → AreSame plus (none ++ selected t (all_pairs c.plus rights)) → AreSame minus (none' ++ selected t (all_pairs c.minus rights))
    → counted.Changed c lefts lefts1 → AreSame lefts1 lefts2 → AreSame plus' (plus ++ selected t (all_pairs lefts1 d.plus))
    → AreSame minus' (minus ++ selected t (all_pairs lefts1 d.minus)) → counted.Changed d rights1 rights2 → change ≡ cancelled at plus' minus'
    → out' ≡ out ++ change ∷ []
    → JoinsWhere t c d (record { left = left; right = right; lefts = lefts; rights = rights }) (record { left = left; right = right; lefts = lefts2; rights = rights2 })
    out out'
joins_where t c d left right lefts rights lefts1 rights1 lefts2 rights2 none none' plus plus' minus minus' at change out out' n n' a sr p m made sl p' m' made' is g = record {
  left = refl;
  right = refl;
  lefts = changed_to c lefts lefts1 lefts2 sl made;
  rights = changed_from d rights rights1 rights2 sr made';
  gave = g ∙ ap (λ x. out ++ x ∷ [])
      (is ∙ ap (λ z. cancelled z plus' minus') a
      ∙ joined_change t c d rights lefts1 lefts2 plus plus' minus minus' sl
      (subst (λ l. AreSame plus (l ++ selected t (all_pairs c.plus rights))) n p) (subst (λ l. AreSame minus (l ++ selected t (all_pairs c.minus rights))) n' m) p' m');
}
