use Rattle.std.proofs.Common.{◌≡◌, ℕ, ℤ, zero, suc, ◌-◌, List, [], ◌∷◌, ◌++◌, length, take, ap, ◌∙◌, arith}
use Rattle.std.proofs.Math.Nat.{sub-zero}
use Rattle.river_base.specs.declared.item.Item as item
use Rattle.river_base.specs.declared.item.Flat.TheVariants.{One}
use Rattle.river_base.specs.declared.item.Item.TheVariants.{Flat as FlatItem}
use Rattle.kern_rows.specs.Even.{row_items}
use Rattle.kern_rows.proofs.line.ItemLine.truncate.Goals as goal

-- the first of the rows, and of the others as many as are left
first_of : (n : ℕ) (rows : List (List ℤ)) (others : List item.Item)
    → row_items (take n rows) ++ take (n - length rows) others ≡ take n (row_items rows ++ others)
first_of zero rows others =
    let e : zero - length rows ≡ zero = omega arith in
    ap (λ k. take k others) e
first_of (suc n) [] others = ap (λ k. take k others) (sub-zero (suc n))
first_of (suc n) (r ∷ rows) others =
    let e : suc n - suc (length rows) ≡ n - length rows = omega arith in
    ap (λ k. FlatItem (One r) ∷ (row_items (take n rows) ++ take k others)) e ∙ ap (λ l. FlatItem (One r) ∷ l) (first_of n rows others)

pub returns : goal.returns
returns c =
    let l = c.self.inside in
    let n = c.args.count in
    ap (λ rs. row_items rs ++ c.truncate.new.self.items) c.truncate-2.ensures
    ∙ ap (λ os. row_items (take n l.rows) ++ os)
    (c.truncate.ensures.items ∙ ap (λ k. take k l.others.items) (c.saturating_sub.ensures ∙ ap (λ k. n - k) c.len-rows.ensures))
    ∙ first_of n l.rows l.others.items ∙ ap (take n) c.self.view_is
