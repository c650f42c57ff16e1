-- A product and a selection behind it.
use Rattle.std.proofs.Common.{◌≡◌, ◌-◌, ℕ, ℤ, pos, Bool, true, false, cond, List, [], ◌∷◌, ◌++◌, length, map, refl, sym, ap, ◌∙◌, arith}
use Rattle.std.specs.Ordering.{int_eq}
use Rattle.std.proofs.lemmas.Bool.{true≢false}
use Rattle.std.proofs.lemmas.Cmp.{int_eq_equiv}
use Rattle.std.proofs.lemmas.List.{get_or_append_left, get_or-append_right}
use Rattle.std.proofs.lemmas.List.Elements.{filter-append, All-head, All-tail}
use Rattle.std.proofs.lemmas.List.Kept.{IsSortedBy-filter}
use Rattle.river_base.specs.Changes.{all_pairs, difference}
use Rattle.river_base.specs.Row.{row_lt, copies, in_order}
use Rattle.river_base.proofs.Rows.{rows_ranked, in_order_ascends}
use Rattle.work_code.specs.Term.{Term}
use Rattle.work_code.specs.Value.{val, is_true}
use Rattle.kern_changes.specs.Keyed.{at_place, rows_with}
use Rattle.kern_changes.proofs.Copies.{copies-in_order, differences_are}
use Rattle.kern_changes.proofs.Leading.{same_ascending, difference_ascends}
use Rattle.kern_bags.specs.Contents.{selected, product}
use Rattle.kern_bags.specs.Joined.{HoldsEqual, pairs_by, SelectionsOfProducts, SelectionsCancel, SelectionsOfChanges, PairsAreFound, JoinsAre}
use Rattle.kern_bags.proofs.Copies.{selections_are}
use Rattle.kern_bags.proofs.Followed.{change_selected}

abbrev test : Term → List ℤ → Bool
test t row = is_true (val t row [])

-- CONTENTS AND CHANGES

-- what is kept of a product
pub selections_of_products : SelectionsOfProducts
selections_of_products t xs ys =
    same_ascending (selected t (product xs ys)) (in_order (selected t (all_pairs xs ys)))
    (IsSortedBy-filter row_lt rows_ranked (test t) (product xs ys) (in_order_ascends (all_pairs xs ys)))
    (in_order_ascends (selected t (all_pairs xs ys)))
    (λ row. selections_are t (product xs ys) row
    ∙ ap (λ n. cond (test t row) n 0) (copies-in_order row (all_pairs xs ys))
    ∙ sym (selections_are t (all_pairs xs ys) row)
    ∙ sym (copies-in_order row (selected t (all_pairs xs ys))))

less_kept : (b : Bool) (m n : ℕ) → cond b (m - n) 0 ≡ cond b m 0 - cond b n 0
less_kept true m n = refl
less_kept false m n = omega arith

-- what is kept of a difference
pub selected_difference : (t : Term) (xs ys : List (List ℤ)) → selected t (difference xs ys) ≡ difference (selected t xs) (selected t ys)
selected_difference t xs ys =
    same_ascending (selected t (difference xs ys)) (difference (selected t xs) (selected t ys))
    (IsSortedBy-filter row_lt rows_ranked (test t) (difference xs ys) (difference_ascends xs ys))
    (difference_ascends (selected t xs) (selected t ys))
    (λ row. selections_are t (difference xs ys) row
    ∙ ap (λ n. cond (test t row) n 0) (differences_are xs ys row)
    ∙ less_kept (test t row) (copies row xs) (copies row ys)
    ∙ (λ i. sym (selections_are t xs row) i - sym (selections_are t ys row) i)
    ∙ sym (differences_are (selected t xs) (selected t ys) row))

-- what is kept of rows that come and go
pub selections_cancel : SelectionsCancel
selections_cancel t at plus minus =
    λ i. record { at = at; plus = selected_difference t plus minus i; minus = selected_difference t minus plus i }

-- what is kept of changes
pub selections_of_changes : SelectionsOfChanges
selections_of_changes t before [] = refl
selections_of_changes t before (b ∷ bs) =
    let first = sym (change_selected t before b) in
    let more = selections_of_changes t b.rows bs in
    λ i. first i ∷ more i

-- PAIRS THAT ARE FOUND

-- a joined row passes only where the two agree
pub passes_alike : (l : ℕ) (t : Term) (i j : ℕ) (x y : List ℤ) → HoldsEqual l t i j → length x ≡ l → test t (x ++ y) ≡ true
    → int_eq (at_place (j - l) y) (at_place i x) ≡ true
passes_alike l t i j x y h w p =
    let f = h.first in
    let a : at_place i x ≡ at_place (j - l) y = sym (get_or_append_left x y (pos 0) i (omega (arith, f, w))) ∙ h.same (x ++ y) p
    ∙ get_or-append_right x y l j (pos 0) w h.second in
    ap (λ v. int_eq v (at_place i x)) (sym a) ∙ int_eq_equiv.refl (at_place i x)

pub one_row : (l : ℕ) (t : Term) (i j : ℕ) (x : List ℤ) (ys : List (List ℤ)) → HoldsEqual l t i j → length x ≡ l
    → selected t (map (λ y. x ++ y) ys) ≡ selected t (map (λ y. x ++ y) (rows_with (j - l) (at_place i x) ys))
one_row l t i j x [] h w = refl
one_row l t i j x (y ∷ ys) h w = step (test t (x ++ y)) refl (int_eq (at_place (j - l) y) (at_place i x)) refl (one_row l t i j x ys h w) where
  rest : List (List ℤ)
  rest = rows_with (j - l) (at_place i x) ys

  step : (b : Bool) → test t (x ++ y) ≡ b → (c : Bool) → int_eq (at_place (j - l) y) (at_place i x) ≡ c
      → selected t (map (λ y. x ++ y) ys) ≡ selected t (map (λ y. x ++ y) rest)
      → cond b ((x ++ y) ∷ selected t (map (λ y. x ++ y) ys)) (selected t (map (λ y. x ++ y) ys))
      ≡ selected t (map (λ y. x ++ y) (cond c (y ∷ rest) rest))
  step true e true g more = ap (λ l. (x ++ y) ∷ l) more ∙ sym (ap (λ b. cond b ((x ++ y) ∷ selected t (map (λ y. x ++ y) rest)) (selected t (map (λ y. x ++ y) rest))) e)
  step true e false g more = absurd (true≢false (sym (passes_alike l t i j x y h w e) ∙ g))
  step false e true g more = more ∙ sym (ap (λ b. cond b ((x ++ y) ∷ selected t (map (λ y. x ++ y) rest)) (selected t (map (λ y. x ++ y) rest))) e)
  step false e false g more = more

-- so all pairs that pass are among those that agree
pub pairs_are_found : PairsAreFound
pairs_are_found l t i j [] ys h w = refl
pairs_are_found l t i j (x ∷ xs) ys h w =
    let f : List ℤ → List (List ℤ) = λ z. map (λ y. z ++ y) ys in
    let g : List ℤ → List (List ℤ) = λ z. map (λ y. z ++ y) (rows_with (j - l) (at_place i z) ys) in
    let wide = All-head (λ row. length row ≡ l) x xs w in
    let first = one_row l t i j x ys h wide in
    let more = pairs_are_found l t i j xs ys h (All-tail (λ row. length row ≡ l) x xs w) in
    filter-append (test t) (f x) (all_pairs xs ys) ∙ (λ k. first k ++ more k)
    ∙ sym (filter-append (test t) (g x) (pairs_by i (j - l) xs ys))

-- all laws
pub joins_are : JoinsAre
joins_are = record { contents = selections_of_products; changes_cancel = selections_cancel; changes_follow = selections_of_changes; found = pairs_are_found }
