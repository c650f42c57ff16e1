-- The changes that selections and projections give.
use Rattle.std.proofs.Common.{◌≡◌, ◌≤◌, ℤ, Bool, true, false, cond, List, [], ◌∷◌, map, filter, ◌∙◌, arith, inl, inr, ⊎_elim}
use Rattle.std.proofs.lemmas.List.Sums.{sum_by-cons}
use Rattle.std.proofs.lemmas.List.Kept.{IsSortedBy-filter}
use Rattle.river_base.specs.Row.{row_eq, row_lt, copies}
use Rattle.river_base.specs.Changes.{difference, change_to, cancelled, IsNormal}
use Rattle.river_base.specs.declared.item.Batch.{Batch}
use Rattle.river_base.specs.declared.item.Change.{Change}
use Rattle.river_base.proofs.Rows.{rows_ranked}
use Rattle.work_code.specs.Term.{Term}
use Rattle.work_code.specs.Value.{val, is_true}
use Rattle.kern_bags.specs.Contents.{selected, projected}
use Rattle.kern_changes.proofs.Leading.{cancelled_is, cancelled_none, cancelled_normal, change_leads, leads_filter, leads_in_order, leads_map}

some_pass : (p : List ℤ → Bool) (row : List ℤ) (xs : List (List ℤ)) → copies row (filter p xs) ≤ copies row xs
some_pass p row [] = omega arith
some_pass p row (x ∷ xs) = step (p x) (some_pass p row xs) where
  step : (b : Bool) → copies row (filter p xs) ≤ copies row xs → copies row (cond b (x ∷ filter p xs) (filter p xs)) ≤ copies row (x ∷ xs)
  step true h =
      let a = sum_by-cons (λ y. cond (row_eq row y) 1 0) x (filter p xs) in let b = sum_by-cons (λ y. cond (row_eq row y) 1 0) x xs in omega (arith, h, a, b)
  step false h = let b = sum_by-cons (λ y. cond (row_eq row y) 1 0) x xs in omega (arith, h, b)

-- what passes of a normalised change, in both parts, is normalised
pub selected_normal : (t : Term) (c : Change) → IsNormal c → IsNormal (record { at = c.at; plus = selected t c.plus; minus = selected t c.minus })
selected_normal t c n =
    let p : List ℤ → Bool = λ row. is_true (val t row []) in
    record {
      plus = IsSortedBy-filter row_lt rows_ranked p c.plus n.plus;
      minus = IsSortedBy-filter row_lt rows_ranked p c.minus n.minus;
      apart = λ row.
          let l = some_pass p row c.plus in let m = some_pass p row c.minus in
          ⊎_elim (λ e. inl (omega (arith, e, l))) (λ e. inr (omega (arith, e, m))) (n.apart row);
    }

-- what passes, in both parts, is the change of what passes
pub change_selected : (t : Term) (before : List (List ℤ)) (b : Batch)
    → change_to (selected t before) (record { at = b.at; rows = selected t b.rows })
    ≡ record { at = b.at; plus = selected t (difference b.rows before); minus = selected t (difference before b.rows) }
change_selected t before b =
    let p : List ℤ → Bool = λ row. is_true (val t row []) in
    let c : Change = record { at = b.at; plus = selected t (difference b.rows before); minus = selected t (difference before b.rows) } in
    cancelled_is b.at (selected t before) (selected t b.rows) c.plus c.minus (leads_filter p before b.rows (difference b.rows before) (difference before b.rows)
    (change_leads before b.rows))
    ∙ cancelled_none c (selected_normal t (change_to before b) (cancelled_normal b.at b.rows before))

-- the images, without those that come and go
pub change_projected : (ts : List Term) (before : List (List ℤ)) (b : Batch)
    → change_to (projected ts before) (record { at = b.at; rows = projected ts b.rows })
    ≡ cancelled b.at (map (λ row. map (λ t. val t row []) ts) (difference b.rows before)) (map (λ row. map (λ t. val t row []) ts) (difference before b.rows))
change_projected ts before b =
    let g : List ℤ → List ℤ = λ row. map (λ t. val t row []) ts in
    cancelled_is b.at (projected ts before) (projected ts b.rows) (map g (difference b.rows before)) (map g (difference before b.rows))
    (leads_in_order (map g before) (map g b.rows) (map g (difference b.rows before)) (map g (difference before b.rows))
    (leads_map g before b.rows (difference b.rows before) (difference before b.rows) (change_leads before b.rows)))
