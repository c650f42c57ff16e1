-- How wide the rows of bags and changes are.
use Rattle.std.proofs.Common.{◌≡◌, ℕ, ℤ, Bool, true, false, cond, List, [], ◌∷◌, ◌++◌, length, sym, ap, ◌∙◌, arith, append_assoc}
use Rattle.std.specs.List.Sorted.{IsPermutation}
use Rattle.std.proofs.lemmas.List.{append-nil}
use Rattle.std.proofs.lemmas.List.Elements.{All-head, All-tail, All-cons, All-nil, All-append}
use Rattle.std.proofs.lemmas.List.Sorted.{All-permutation}
use Rattle.river_base.proofs.Lists.{count_by-append}
use Rattle.river_base.specs.Changes.{take_out, without, difference, cancelled, IsChangeOf, GaveChanges}
use Rattle.river_base.specs.Held.{HaveWidth}
use Rattle.river_base.specs.Row.{row_eq, in_order}
use Rattle.river_base.specs.declared.item.Change.{Change}
use Rattle.river_base.proofs.Counts.{permutation_from_copies}
use Rattle.river_base.proofs.Rows.{in_order_bag}
use Rattle.kern_changes.specs.Counted.{Changed}
use Rattle.kern_changes.proofs.Copies.{copies-without}
use Rattle.kern_changes.proofs.Leading.{cancelled_normal}

-- rows so wide, in two lists
pub wide_append : (w : ℕ) (xs ys : List (List ℤ)) → HaveWidth w xs → HaveWidth w ys → HaveWidth w (xs ++ ys)
wide_append w xs ys h g = All-append (λ row. length row ≡ w) xs ys h g

wide_take_out : (w : ℕ) (y : List ℤ) (xs : List (List ℤ)) → HaveWidth w xs → HaveWidth w (take_out y xs)
wide_take_out w y [] h = h
wide_take_out w y (x ∷ xs) h = step (row_eq x y) (wide_take_out w y xs (All-tail (λ row. length row ≡ w) x xs h)) where
  step : (b : Bool) → HaveWidth w (take_out y xs) → HaveWidth w (cond b xs (x ∷ take_out y xs))
  step true more = All-tail (λ row. length row ≡ w) x xs h
  step false more = All-cons (λ row. length row ≡ w) x (take_out y xs) (All-head (λ row. length row ≡ w) x xs h) more

wide_without : (w : ℕ) (xs ys : List (List ℤ)) → HaveWidth w xs → HaveWidth w (without xs ys)
wide_without w xs [] h = h
wide_without w xs (y ∷ ys) h = wide_without w (take_out y xs) ys (wide_take_out w y xs h)

-- the order is nothing
pub wide_in_order : (w : ℕ) (xs : List (List ℤ)) → HaveWidth w xs → HaveWidth w (in_order xs)
wide_in_order w xs h = All-permutation (λ row. length row ≡ w) xs (in_order xs) (in_order_bag xs) h

-- what is left of rows so wide
pub wide_difference : (w : ℕ) (xs ys : List (List ℤ)) → HaveWidth w xs → HaveWidth w (difference xs ys)
wide_difference w xs ys h = wide_in_order w (without xs ys) (wide_without w xs ys h)

-- the change that rows so wide make, in any order
pub cancelled_of : (w : ℕ) (at : ℤ) (plus minus : List (List ℤ)) → HaveWidth w plus → HaveWidth w minus → IsChangeOf w (cancelled at plus minus)
cancelled_of w at plus minus p m = record {
  normal = cancelled_normal at plus minus;
  wide = record { plus = wide_difference w plus minus p; minus = wide_difference w minus plus m };
}

-- a bag of rows so wide, once a change of such rows was made on it
pub wide_changed : (w : ℕ) (c : Change) (old new : List (List ℤ)) → HaveWidth w old → HaveWidth w c.plus → Changed c old new → HaveWidth w new
wide_changed w c old new h g made =
    let p : IsPermutation (without old c.minus ++ c.plus) new = permutation_from_copies (without old c.minus ++ c.plus) new (λ row.
    let a = count_by-append (row_eq row) (without old c.minus) c.plus in let b = copies-without row old c.minus in let n =
    made.each row in omega (arith, a, b, n)) in
    All-permutation (λ row. length row ≡ w) (without old c.minus ++ c.plus) new p (wide_append w (without old c.minus) c.plus (wide_without w old c.minus h) g)

-- CHANGES THAT WERE GIVEN

-- none was
pub gave_none : (w : ℕ) (out : List Change) → GaveChanges w out out
gave_none w out = record { given = []; grew = sym (append-nil out); each = All-nil (IsChangeOf w) }

-- one more was
pub gave_more : (w : ℕ) (out out' out'' : List Change) (c : Change) → GaveChanges w out out' → out'' ≡ out' ++ c ∷ [] → IsChangeOf w c → GaveChanges w out out''
gave_more w out out' out'' c g e h = record {
  given = g.given ++ c ∷ [];
  grew = e ∙ ap (λ l. l ++ c ∷ []) g.grew ∙ append_assoc out g.given (c ∷ []);
  each = All-append (IsChangeOf w) g.given (c ∷ []) g.each (All-cons (IsChangeOf w) c [] h (All-nil (IsChangeOf w)));
}

-- more were
pub gave_on : (w : ℕ) (out out' out'' : List Change) → GaveChanges w out out' → GaveChanges w out' out'' → GaveChanges w out out''
gave_on w out out' out'' g h = record {
  given = g.given ++ h.given;
  grew = h.grew ∙ ap (λ l. l ++ h.given) g.grew ∙ append_assoc out g.given h.given;
  each = All-append (IsChangeOf w) g.given h.given g.each h.each;
}
