use Rattle.std.proofs.Common.{◌≡◌, ℕ, ℤ, zero, suc, ◌<◌, List, [], ◌∷◌, ◌++◌, length, refl, sym, ap, ◌∙◌, arith}
use Rattle.std.specs.Prelude.{slice_get, slice_index_or, Some}
use Rattle.river_base.specs.declared.item.Item as item
use Rattle.river_base.specs.declared.item.Flat.TheVariants.{One}
use Rattle.river_base.specs.declared.item.Item.TheVariants.{Flat as FlatItem}
use Rattle.kern_rows.specs.Even.{row_items}
use Rattle.kern_rows.proofs.line.ItemLine.row_at.Goals as goal

-- a row in front
in_front : (rows : List (List ℤ)) (others : List item.Item) (i : ℕ) → i < length rows
    → slice_get (row_items rows ++ others) i ≡ Some (FlatItem (One (slice_index_or rows i [])))
in_front [] others i lt = absurd (omega (arith, lt))
in_front (r ∷ rows) others zero lt = refl
in_front (r ∷ rows) others (suc i) lt = in_front rows others i (omega (arith, lt))

pub returns-then-place-len-clause-item : goal.returns-then-place-len-clause-item
returns-then-place-len-clause-item c =
    let lt : c.args.place < length c.self.inside.rows = (let t = c.if-place-len.true in let e = c.len.ensures in omega (arith, t, e)) in
    ap (λ l. slice_get l c.args.place) (sym c.self.view_is) ∙ in_front c.self.inside.rows c.self.inside.others.items c.args.place lt
    ∙ ap (λ r. Some (FlatItem (One r))) (sym (c.at.ensures.row []))
