-- What leads from one bag to another, and the change that it makes.
use Rattle.std.proofs.Common.{◌≡◌, ℕ, ◌+◌, ◌-◌, ◌≤◌, ℤ, Bool, true, false, cond, List, [], ◌∷◌, ◌++◌, map, filter, refl, sym, ap, ◌∙◌, arith, inl, inr, ⊎_elim}
use Rattle.std.specs.Prelude.{sum_by, flat_map}
use Rattle.std.specs.List.Sorted.{IsPermutation}
use Rattle.std.proofs.lemmas.List.Sums.{sum_by-cons, sum_by-append}
use Rattle.std.proofs.lemmas.List.Sorted.{sum_by-IsPermutation}
use Rattle.std.proofs.lemmas.Bool.{cases_lt}
use Rattle.river_base.proofs.Lists.{count_by-append}
use Rattle.river_base.specs.Held.{IsAscending}
use Rattle.river_base.specs.Row.{row_eq, copies, in_order}
use Rattle.river_base.specs.declared.item.Batch.{Batch}
use Rattle.river_base.proofs.Counts.{permutation_from_copies}
use Rattle.river_base.proofs.Rows.{in_order_bag, in_order_ascends, in_order-IsPermutation, same_from_sorted}
use Rattle.kern_changes.proofs.Copies.{copies-in_order, copies-without, differences_are, sum-cong}
use Rattle.river_base.specs.declared.item.Change.{Change}
use Rattle.river_base.specs.Changes.{without, difference, content_after, ChangesInto, StandForContents, IsNormal, AllNormal, AllAscending, change_to}
use Rattle.river_base.specs.Changes.{changes, last_content, cancelled, LeadsTo}
use Rattle.river_base.specs.Changes.{all_pairs}

-- SUMS OVER LISTS

-- a sum over images
pub sum-map : {J K : Type 0} (f : K → ℕ) (g : J → K) (xs : List J) → sum_by f (map g xs) ≡ sum_by (λ x. f (g x)) xs
sum-map f g [] = refl
sum-map f g (x ∷ xs) = sum_by-cons f (g x) (map g xs) ∙ ap (λ n. f (g x) + n) (sum-map f g xs) ∙ sym (sum_by-cons (λ y. f (g y)) x xs)

-- a sum over what passes a test
pub sum-filter : {K : Type 0} (f : K → ℕ) (p : K → Bool) (xs : List K) → sum_by f (filter p xs) ≡ sum_by (λ x. cond (p x) (f x) 0) xs
sum-filter f p [] = refl
sum-filter f p (x ∷ xs) = step (p x) (sum-filter f p xs) ∙ sym (sum_by-cons (λ y. cond (p y) (f y) 0) x xs) where
  step : (b : Bool) → sum_by f (filter p xs) ≡ sum_by (λ y. cond (p y) (f y) 0) xs → sum_by f (cond b (x ∷ filter p xs) (filter p xs))
      ≡ cond b (f x) 0 + sum_by (λ y. cond (p y) (f y) 0) xs
  step true h = sum_by-cons f x (filter p xs) ∙ ap (λ n. f x + n) h
  step false h = h ∙ omega arith

-- a sum over joined lists
pub sum-flat_map : {J K : Type 0} (f : K → ℕ) (g : J → List K) (xs : List J) → sum_by f (flat_map g xs) ≡ sum_by (λ x. sum_by f (g x)) xs
sum-flat_map f g [] = refl
sum-flat_map f g (x ∷ xs) =
    sum_by-append f (g x) (flat_map g xs) ∙ ap (λ n. sum_by f (g x) + n) (sum-flat_map f g xs) ∙ sym (sum_by-cons (λ y. sum_by f (g y)) x xs)

-- a sum of sums
pub sum-plus : {K : Type 0} (f g : K → ℕ) (xs : List K) → sum_by (λ x. f x + g x) xs ≡ sum_by f xs + sum_by g xs
sum-plus f g [] = refl
sum-plus f g (x ∷ xs) =
    let a = sum_by-cons (λ y. f y + g y) x xs in let b = sum_by-cons f x xs in let c = sum_by-cons g x xs in let d =
    sum-plus f g xs in omega (arith, a, b, c, d)

-- the order is nothing to a sum
pub sum-in_order : (f : List ℤ → ℕ) (xs : List (List ℤ)) → sum_by f (in_order xs) ≡ sum_by f xs
sum-in_order f xs = sum_by-IsPermutation f xs (in_order xs) (in_order_bag xs)

-- BAGS BY COPIES

-- the order is a function of the bag
pub same_order : (xs ys : List (List ℤ)) → ((row : List ℤ) → copies row xs ≡ copies row ys) → in_order xs ≡ in_order ys
same_order xs ys h = in_order-IsPermutation xs ys (permutation_from_copies xs ys h)

-- two lists in order that are one bag are the same
pub same_ascending : (xs ys : List (List ℤ)) → IsAscending xs → IsAscending ys → ((row : List ℤ) → copies row xs ≡ copies row ys) → xs ≡ ys
same_ascending xs ys a b h = same_from_sorted xs ys (permutation_from_copies xs ys h) a b

-- a difference is in order
pub difference_ascends : (xs ys : List (List ℤ)) → IsAscending (difference xs ys)
difference_ascends xs ys = in_order_ascends (without xs ys)

-- a difference is a function of the bags
pub same_difference : (xs ys us vs : List (List ℤ)) → ((row : List ℤ) → copies row xs - copies row ys ≡ copies row us - copies row vs)
    → difference xs ys ≡ difference us vs
same_difference xs ys us vs h = same_order (without xs ys) (without us vs) (λ row. copies-without row xs ys ∙ h row ∙ sym (copies-without row us vs))

-- the order is nothing to a difference
pub difference-in_order : (xs ys : List (List ℤ)) → difference (in_order xs) (in_order ys) ≡ difference xs ys
difference-in_order xs ys =
    same_difference (in_order xs) (in_order ys) xs ys (λ row. let a = copies-in_order row xs in let b = copies-in_order row ys in omega (arith, a, b))

-- LEADING

-- what leads there, by copies of a row
pub leads_copies : (before after plus minus : List (List ℤ)) → LeadsTo before after plus minus → (row : List ℤ) → copies row after + copies row minus
    ≡ copies row before + copies row plus
leads_copies before after plus minus h row = h.each (λ x. cond (row_eq row x) 1 0)

-- and by these for any weights
pub leads_from_copies : (before after plus minus : List (List ℤ)) → ((row : List ℤ) → copies row after + copies row minus ≡ copies row before + copies row plus)
    → LeadsTo before after plus minus
leads_from_copies before after plus minus h = record {
  each = λ f.
      let p : IsPermutation (after ++ minus) (before ++ plus) = permutation_from_copies (after ++ minus) (before ++ plus) (λ row. count_by-append
      (row_eq row) after minus ∙ h row ∙ sym (count_by-append (row_eq row) before plus)) in
      sym (sum_by-append f after minus) ∙ sym (sum_by-IsPermutation f (after ++ minus) (before ++ plus) p) ∙ sum_by-append f before plus;
}

-- what both lists have, taken away, is the change
pub cancelled_is : (at : ℤ) (before after plus minus : List (List ℤ)) → LeadsTo before after plus minus → change_to before (record { at = at; rows = after })
    ≡ cancelled at plus minus
cancelled_is at before after plus minus h =
    let p : difference after before
    ≡ difference plus minus = same_difference after before plus minus (λ row. let e = leads_copies before after plus minus h row in omega (arith, e)) in
    let m : difference before after
    ≡ difference minus plus = same_difference before after minus plus (λ row. let e = leads_copies before after plus minus h row in omega (arith, e)) in
    λ i. record { at = at; plus = p i; minus = m i }

-- the rows of the change lead from one content to the other
pub change_leads : (before after : List (List ℤ)) → LeadsTo before after (difference after before) (difference before after)
change_leads before after =
    leads_from_copies before after (difference after before) (difference before after) (λ row. let a = differences_are after before row in
    let b = differences_are before after row in omega (arith, a, b))

-- by any rows that lead there the content is made
pub leads_makes : (before after : List (List ℤ)) (c : Change) → IsAscending after → LeadsTo before after c.plus c.minus
    → ((row : List ℤ) → copies row c.minus ≤ copies row before) → content_after before c ≡ after
leads_makes before after c a h w = same_ascending (content_after before c) after (in_order_ascends (without before c.minus ++ c.plus)) a (λ row.
    copies-in_order row (without before c.minus ++ c.plus) ∙ count_by-append (row_eq row) (without before c.minus) c.plus
    ∙ (let e = leads_copies before after c.plus c.minus h row in let d = copies-without row before c.minus in let l = w row in omega (arith, e, d, l)))

-- CHANGES AND CONTENTS

-- rows that come and go make a normalised change
pub cancelled_normal : (at : ℤ) (plus minus : List (List ℤ)) → IsNormal (cancelled at plus minus)
cancelled_normal at plus minus = record {
  plus = difference_ascends plus minus;
  minus = difference_ascends minus plus;
  apart = λ row. ⊎_elim (λ lt. inl (differences_are plus minus row ∙ omega (arith, lt))) (λ ge. inr (differences_are minus plus row ∙ omega (arith, ge)))
      (cases_lt
      (copies row plus) (copies row minus));
}

-- a normalised change has nothing to take away
pub cancelled_none : (c : Change) → IsNormal c → cancelled c.at c.plus c.minus ≡ c
cancelled_none c n =
    let p : difference c.plus c.minus
    ≡ c.plus = same_ascending (difference c.plus c.minus) c.plus (difference_ascends c.plus c.minus) n.plus
    (λ row. let d = differences_are c.plus c.minus row in
    ⊎_elim (λ e. omega (arith, e, d)) (λ e. omega (arith, e, d)) (n.apart row)) in
    let m : difference c.minus c.plus
    ≡ c.minus = same_ascending (difference c.minus c.plus) c.minus (difference_ascends c.minus c.plus) n.minus
    (λ row. let d = differences_are c.minus c.plus row in
    ⊎_elim (λ e. omega (arith, e, d)) (λ e. omega (arith, e, d)) (n.apart row)) in
    λ i. record { at = c.at; plus = p i; minus = m i }

-- the change between two contents makes the one into the other
pub change_becomes : (before : List (List ℤ)) (b : Batch) → IsAscending b.rows → ChangesInto before (change_to before b) b
change_becomes before b a = record {
  at = refl;
  within = record { each = λ row. let e = differences_are before b.rows row in omega (arith, e) };
  rows = sym (leads_makes before b.rows (change_to before b) a (change_leads before b.rows)
      (λ row. let e = differences_are before b.rows row in omega (arith, e)));
}

-- the change between two contents makes the second
pub change_makes : (before : List (List ℤ)) (b : Batch) → IsAscending b.rows → content_after before (change_to before b) ≡ b.rows
change_makes before b a = sym (change_becomes before b a).rows

-- and it is the only normalised one
pub change_is : (before : List (List ℤ)) (c : Change) (b : Batch) → ChangesInto before c b → IsNormal c → c ≡ change_to before b
change_is before c b h n =
    let counted : (row : List ℤ) → copies row b.rows ≡ (copies row before - copies row c.minus) + copies row c.plus = λ row.
    ap (copies row) h.rows ∙ copies-in_order row (without before c.minus ++ c.plus) ∙ count_by-append (row_eq row) (without before c.minus) c.plus
    ∙ ap (λ k. k + copies row c.plus) (copies-without row before c.minus) in
    let p : c.plus ≡ difference b.rows before = same_ascending c.plus (difference b.rows before) n.plus (difference_ascends b.rows before)
    (λ row. let d = differences_are b.rows before row in let e = counted row in let w = h.within.each row in
    ⊎_elim (λ z. omega (arith, e, w, z, d)) (λ z. omega (arith, e, w, z, d)) (n.apart row)) in
    let m : c.minus ≡ difference before b.rows = same_ascending c.minus (difference before b.rows) n.minus (difference_ascends before b.rows)
    (λ row. let d = differences_are before b.rows row in let e = counted row in let w = h.within.each row in
    ⊎_elim (λ z. omega (arith, e, w, z, d)) (λ z. omega (arith, e, w, z, d)) (n.apart row)) in
    λ i. record { at = h.at i; plus = p i; minus = m i }

-- the changes of a list of contents stand for it, and are normalised
pub changes_stand : (before : List (List ℤ)) (bs : List Batch) → AllAscending bs
    → StandForContents before (changes before bs) bs × AllNormal (changes before bs)
changes_stand before [] a = (tt, tt)
changes_stand before (b ∷ bs) a =
    let more = changes_stand b.rows bs a.1 in
    ((change_becomes before b a.0, more.0), (cancelled_normal b.at b.rows before, more.1))

-- and no other list does and is
pub changes_are : (before : List (List ℤ)) (cs : List Change) (bs : List Batch) → StandForContents before cs bs → AllNormal cs → cs ≡ changes before bs
changes_are before [] [] h n = refl
changes_are before [] (b ∷ bs) h n = absurd h
changes_are before (c ∷ cs) [] h n = absurd h
changes_are before (c ∷ cs) (b ∷ bs) h n =
    let e : c ≡ change_to before b = change_is before c b h.0 n.0 in
    let t : cs ≡ changes b.rows bs = changes_are b.rows cs bs h.1 n.1 in
    λ i. e i ∷ t i

-- the changes between the contents of two lists, one behind the other
pub changes-append : (before : List (List ℤ)) (xs ys : List Batch) → changes before (xs ++ ys) ≡ changes before xs ++ changes (last_content before xs) ys
changes-append before [] ys = refl
changes-append before (x ∷ xs) ys = ap (λ l. change_to before x ∷ l) (changes-append x.rows xs ys)

-- the last content of two lists, one behind the other
pub last_content-append : (before : List (List ℤ)) (xs ys : List Batch) → last_content before (xs ++ ys) ≡ last_content (last_content before xs) ys
last_content-append before [] ys = refl
last_content-append before (x ∷ xs) ys = last_content-append x.rows xs ys

-- WHAT KERNELS DO TO WHAT LEADS

-- one after another
pub leads_both : (first second third plus minus plus' minus' : List (List ℤ)) → LeadsTo first second plus minus → LeadsTo second third plus' minus'
    → LeadsTo first third (plus ++ plus') (minus ++ minus')
leads_both first second third plus minus plus' minus' h g = record {
  each = λ f.
      let p = sum_by-append f plus plus' in let m = sum_by-append f minus minus' in let e = h.each f in let d = g.each f in
      omega (arith, p, m, e, d);
}

-- back
pub leads_back : (before after plus minus : List (List ℤ)) → LeadsTo before after plus minus → LeadsTo after before minus plus
leads_back before after plus minus h = record { each = λ f. let e = h.each f in omega (arith, e) }

-- nothing leads back to where it began
pub leads_none : (rows : List (List ℤ)) → LeadsTo rows rows [] []
leads_none rows = record { each = λ f. refl }

-- order is nothing
pub leads_in_order : (before after plus minus : List (List ℤ)) → LeadsTo before after plus minus → LeadsTo (in_order before) (in_order after) plus minus
leads_in_order before after plus minus h = record {
  each = λ f. let a = sum-in_order f after in let b = sum-in_order f before in let e = h.each f in omega (arith, a, b, e);
}

-- what passes a test leads from what passed to what passes
pub leads_filter : (p : List ℤ → Bool) (before after plus minus : List (List ℤ)) → LeadsTo before after plus minus
    → LeadsTo (filter p before) (filter p after) (filter p plus) (filter p minus)
leads_filter p before after plus minus h = record {
  each = λ f.
      let a = sum-filter f p after in let b = sum-filter f p before in let c = sum-filter f p plus in let d = sum-filter f p minus in let e =
      h.each (λ x. cond (p x) (f x) 0) in
      omega (arith, a, b, c, d, e);
}

-- images lead from images to images
pub leads_map : (g : List ℤ → List ℤ) (before after plus minus : List (List ℤ)) → LeadsTo before after plus minus
    → LeadsTo (map g before) (map g after) (map g plus) (map g minus)
leads_map g before after plus minus h = record {
  each = λ f.
      let a = sum-map f g after in let b = sum-map f g before in let c = sum-map f g plus in let d = sum-map f g minus in let e = h.each (λ x. f (g x)) in
      omega (arith, a, b, c, d, e);
}

-- a sum over pairs
pub sum-pairs : (f : List ℤ → ℕ) (xs ys : List (List ℤ)) → sum_by f (all_pairs xs ys) ≡ sum_by (λ x. sum_by (λ y. f (x ++ y)) ys) xs
sum-pairs f xs ys =
    sum-flat_map f (λ x. map (λ y. x ++ y) ys) xs
    ∙ sum-cong (λ x. sum_by f (map (λ y. x ++ y) ys)) (λ x. sum_by (λ y. f (x ++ y)) ys) xs (λ x. sum-map f (λ y. x ++ y) ys)

-- pairs, where the left or the right side changes
pub leads_left : (before after plus minus ys : List (List ℤ)) → LeadsTo before after plus minus
    → LeadsTo (all_pairs before ys) (all_pairs after ys) (all_pairs plus ys) (all_pairs minus ys)
leads_left before after plus minus ys h = record {
  each = λ f.
      let a = sum-pairs f after ys in let b = sum-pairs f before ys in let c = sum-pairs f plus ys in let d = sum-pairs f minus ys in
      let e = h.each (λ x. sum_by (λ y. f (x ++ y)) ys) in
      omega (arith, a, b, c, d, e);
}

-- the same where the right side changes
pub leads_right : (xs before after plus minus : List (List ℤ)) → LeadsTo before after plus minus
    → LeadsTo (all_pairs xs before) (all_pairs xs after) (all_pairs xs plus) (all_pairs xs minus)
leads_right xs before after plus minus h = record {
  each = λ f.
      let over : List (List ℤ) → List ℤ → ℕ = λ ys x. sum_by (λ y. f (x ++ y)) ys in
      let a = sum-pairs f xs after in let b = sum-pairs f xs before in let c = sum-pairs f xs plus in let d = sum-pairs f xs minus in
      let e : sum_by (λ x. over after x + over minus x) xs
      ≡ sum_by (λ x. over before x + over plus x) xs =
      sum-cong (λ x. over after x + over minus x) (λ x. over before x + over plus x) xs (λ x. h.each (λ y. f (x ++ y))) in
      let l = sum-plus (over after) (over minus) xs in let r = sum-plus (over before) (over plus) xs in
      omega (arith, a, b, c, d, e, l, r);
}
