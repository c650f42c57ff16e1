use Rattle.std.proofs.Common.{◌≡◌, ℕ, ℤ, zero, suc, ◌<◌, List, [], ◌∷◌, ◌++◌, length, refl, sym, ap, ◌∙◌, arith}
use Rattle.std.specs.Prelude.{slice_index_or}
use Rattle.river_base.specs.declared.item.Item as item
use Rattle.river_base.specs.declared.item.Flat.TheVariants.{One}
use Rattle.river_base.specs.declared.item.Item.TheVariants.{Flat as FlatItem}
use Rattle.kern_rows.specs.Even.{row_items}
use Rattle.kern_rows.proofs.line.ItemLine.copy_at.Goals as goal

-- a row in front
in_front : (rows : List (List ℤ)) (others : List item.Item) (i : ℕ) (d : item.Item) → i < length rows
    → slice_index_or (row_items rows ++ others) i d ≡ FlatItem (One (slice_index_or rows i []))
in_front [] others i d lt = absurd (omega (arith, lt))
in_front (r ∷ rows) others zero d lt = refl
in_front (r ∷ rows) others (suc i) d lt = in_front rows others i d (omega (arith, lt))

pub returns-then-place-rows : goal.returns-then-place-rows
returns-then-place-rows c d =
    let lt : c.args.place < length c.self.inside.rows = (let t = c.if-place-rows.true in let e = c.len-rows.ensures in omega (arith, t, e)) in
    ap (λ r. FlatItem (One r)) (c.from_slice-row.ensures ∙ c.at.ensures.row [])
    ∙ sym (ap (λ l. slice_index_or l c.args.place d) (sym c.self.view_is) ∙ in_front c.self.inside.rows c.self.inside.others.items c.args.place d lt)
