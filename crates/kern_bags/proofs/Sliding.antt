-- What comes to a window and what leaves it is the change of its content.
use Rattle.std.proofs.Common.{◌≡◌, ◌+◌, ℕ, ℤ, Bool, true, false, cond, Some, List, [], ◌∷◌, ◌++◌, length, map, filter, refl, sym, ap, ◌∙◌, arith, subst}
use Rattle.std.specs.Prelude.{sum_by, int_le, int_lt}
use Rattle.std.proofs.Math.Bool.{not}
use Rattle.std.proofs.lemmas.List.{map-append}
use Rattle.std.proofs.lemmas.List.Elements.{All-head, All-tail, All-cons, All-nil}
use Rattle.std.proofs.lemmas.List.Sums.{sum_by-append}
use Rattle.std.proofs.lemmas.List.Filters.{sum_by-filter_both}
use Rattle.river_base.specs.declared.item.Batch.{Batch}
use Rattle.river_base.specs.declared.item.Item as item
use Rattle.river_base.specs.declared.item.Item.TheVariants.{Flat}
use Rattle.river_base.specs.declared.item.Flat.TheVariants.{Batch as Batched}
use Rattle.river_base.specs.Held.{batches, HaveWidth}
use Rattle.river_base.specs.Row.{in_order}
use Rattle.kern_bags.specs.Contents.{content_of}
use Rattle.kern_bags.specs.Kept.{Stamped, WindowKept, stamped, inserted, still_in, now_after}
use Rattle.kern_bags.specs.declared.kernel.Window.{Window}
use Rattle.kern_bags.proofs.KeptWindows.{content_is, window_stands}
use Rattle.river_base.specs.declared.item.Change.{Change}
use Rattle.river_base.specs.Changes.{change_to, cancelled, LeadsTo, IsChangeOf}
use Rattle.kern_bags.specs.Following.{LetGo, Windows, WindowFits, stamped_as}
use Rattle.kern_changes.proofs.Leading.{sum-map, leads_in_order, cancelled_is}
use Rattle.kern_changes.proofs.Widths.{wide_append, cancelled_of}

abbrev row_in : Stamped → List ℤ
row_in e = e.1

-- a bag with rows inserted
sum-inserted : (f : List ℤ → ℕ) (at : ℤ) (rows : List (List ℤ)) (es : List Stamped)
    → sum_by f (map row_in (inserted at rows es)) ≡ sum_by f (map row_in es) + sum_by f rows
sum-inserted f at rows es =
    let h : Stamped → ℕ = λ e. f e.1 in
    let F : Stamped → Bool = λ e. int_le e.0 at in
    let G : Stamped → Bool = λ e. int_lt at e.0 in
    let a = sum-map f row_in (inserted at rows es) in
    let b = sum_by-append h (filter F es) (stamped at rows ++ filter G es) in
    let c = sum_by-append h (stamped at rows) (filter G es) in
    let d = sum_by-filter_both F G other h es in
    let e = sum-map f row_in es in
    let g : sum_by h (stamped at rows) ≡ sum_by f rows = sum-map h (λ row. (at, row)) rows in
    omega (arith, a, b, c, d, e, g)
  where
    other : (e : Stamped) → int_lt at e.0 ≡ not (int_le e.0 at)
    other e = grind arith

-- what came and what left is the change of the content of the window
pub slides : (w : Window) (b : Batch) (old new : WindowKept) (gone : List (List ℤ)) (c : Change) → new.now ≡ Some (now_after old.now b.at)
    → new.rows ≡ still_in w (now_after old.now b.at) (inserted b.at b.rows old.rows) → LetGo (inserted b.at b.rows old.rows) new.rows [] gone
    → c ≡ cancelled b.at b.rows gone → Windows w b old new c
slides w b old new gone c now rows went is = record {
  each = λ past h.
      let x : item.Item = Flat (Batched b) in
      let s = window_stands w b old new past now rows h in
      let before : content_of w (batches past) ≡ in_order (map row_in old.rows) = content_is w (batches past)
      ∙ ap (λ l. in_order (map row_in l)) (sym h.rows) in
      let after : content_of w (batches (past ++ x ∷ [])) ≡ in_order (map row_in new.rows) = content_is w (batches (past ++ x ∷ []))
      ∙ ap (λ l. in_order (map row_in l)) (sym s.rows) in
      let l : LeadsTo (map row_in old.rows) (map row_in new.rows) b.rows gone = record {
        each = λ f.
            let i = sum-inserted f b.at b.rows old.rows in
            let p : sum_by f (map row_in (inserted b.at b.rows old.rows)) ≡ sum_by f (map row_in went.left) + sum_by f (map row_in new.rows) =
            ap (λ k. sum_by f (map row_in k)) went.parts ∙ ap (sum_by f) (map-append row_in went.left new.rows)
            ∙ sum_by-append f (map row_in went.left) (map row_in new.rows) in
            let g : sum_by f gone ≡ sum_by f (map row_in went.left) = ap (sum_by f) went.rows in
            omega (arith, i, p, g);
      } in
      let change : change_to (in_order (map row_in old.rows)) (stamped_as b (in_order (map row_in new.rows))) ≡ cancelled b.at b.rows gone =
      cancelled_is b.at (in_order (map row_in old.rows)) (in_order (map row_in new.rows)) b.rows gone
      (leads_in_order (map row_in old.rows) (map row_in new.rows) b.rows gone l) in
      (is ∙ sym change ∙ (λ i. change_to (sym before i) (stamped_as b (sym after i))), s);
}

-- rows so wide, among which others so wide are inserted
wide_inserted : (w : ℕ) (at : ℤ) (rows : List (List ℤ)) (es : List Stamped) → HaveWidth w rows → HaveWidth w (map row_in es)
    → HaveWidth w (map row_in (inserted at rows es))
wide_inserted w at rows es h g =
    let same : map row_in (stamped at rows) ≡ rows = back_again rows in
    let front = filter (λ (e : Stamped). int_le e.0 at) es in
    let back = filter (λ (e : Stamped). int_lt at e.0) es in
    subst (HaveWidth w) (sym (map-append row_in front (stamped at rows ++ back) ∙ ap (λ l. map row_in front ++ l) (map-append row_in (stamped at rows) back)))
    (wide_append w (map row_in front) (map row_in (stamped at rows) ++ map row_in back) (some (λ e. int_le e.0 at) es g)
    (wide_append w (map row_in (stamped at rows)) (map row_in back) (subst (HaveWidth w) (sym same) h) (some (λ e. int_lt at e.0) es g)))
  where
    back_again : (xs : List (List ℤ)) → map row_in (stamped at xs) ≡ xs
    back_again [] = refl
    back_again (x ∷ xs) = ap (λ l. x ∷ l) (back_again xs)

    some : (p : Stamped → Bool) (xs : List Stamped) → HaveWidth w (map row_in xs) → HaveWidth w (map row_in (filter p xs))
    some p [] k = k
    some p (x ∷ xs) k = step (p x) (some p xs (All-tail (λ row. length row ≡ w) (row_in x) (map row_in xs) k)) where
      step : (b : Bool) → HaveWidth w (map row_in (filter p xs)) → HaveWidth w (map row_in (cond b (x ∷ filter p xs) (filter p xs)))
      step true more = All-cons (λ row. length row ≡ w) (row_in x) (map row_in (filter p xs))
          (All-head (λ row. length row ≡ w) (row_in x) (map row_in xs) k) more
      step false more = more

-- the parts of rows so wide
wide_front : (w : ℕ) (xs ys : List (List ℤ)) → HaveWidth w (xs ++ ys) → HaveWidth w xs
wide_front w [] ys h = All-nil (λ row. length row ≡ w)
wide_front w (x ∷ xs) ys h =
    All-cons (λ row. length row ≡ w) x xs (All-head (λ row. length row ≡ w) x (xs ++ ys) h)
    (wide_front w xs ys (All-tail (λ row. length row ≡ w) x (xs ++ ys) h))

wide_back : (w : ℕ) (xs ys : List (List ℤ)) → HaveWidth w (xs ++ ys) → HaveWidth w ys
wide_back w [] ys h = h
wide_back w (x ∷ xs) ys h = wide_back w xs ys (All-tail (λ row. length row ≡ w) x (xs ++ ys) h)

-- what a window gives and keeps is as wide as what came
pub slide_fits : (b : Batch) (old new : WindowKept) (gone : List (List ℤ)) (c : Change) → LetGo (inserted b.at b.rows old.rows) new.rows [] gone
    → c ≡ cancelled b.at b.rows gone → WindowFits b old new c
slide_fits b old new gone c went is = record {
  each = λ w h g.
      let all : HaveWidth w (map row_in went.left ++ map row_in new.rows) =
      subst (HaveWidth w) (ap (map row_in) went.parts ∙ map-append row_in went.left new.rows) (wide_inserted w b.at b.rows old.rows h g) in
      let left : HaveWidth w gone = subst (HaveWidth w) (sym went.rows) (wide_front w (map row_in went.left) (map row_in new.rows) all) in
      (subst (IsChangeOf w) (sym is) (cancelled_of w b.at b.rows gone h left), wide_back w (map row_in went.left) (map row_in new.rows) all);
}
