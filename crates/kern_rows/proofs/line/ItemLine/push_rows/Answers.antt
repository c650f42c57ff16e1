use Rattle.std.proofs.Common.{◌≡◌, ℕ, ℤ, ◌+◌, ◌<◌, ◌≤◌, List, ◌++◌, ◌∷◌, [], length, take, sym, ap, ◌∙◌, append_assoc, arith, get_or}
use Rattle.std.proofs.lemmas.List.{map-append, take_all}
use Rattle.river_base.specs.declared.item.Item as item
use Rattle.river_base.specs.declared.item.Flat.TheVariants.{One}
use Rattle.river_base.specs.declared.item.Item.TheVariants.{Flat as FlatItem}
use Rattle.river_base.proofs.Lists.{take_next}
use Rattle.kern_rows.specs.Even.{row_items}
use Rattle.kern_rows.proofs.line.ItemLine.push_rows.Goals as goal

-- one row more is an item more
one_more : (old : List item.Item) (rows : List (List ℤ)) (i : ℕ) (row : List ℤ) (now new : List item.Item) → i < length rows → row ≡ get_or rows i row
    → now ≡ old ++ row_items (take i rows) → new ≡ now ++ FlatItem (One row) ∷ [] → new ≡ old ++ row_items (take (i + 1) rows)
one_more old rows i row now new lt at is e =
    e ∙ ap (λ l. l ++ FlatItem (One row) ∷ []) is ∙ append_assoc old (row_items (take i rows)) (FlatItem (One row) ∷ [])
    ∙ ap (λ l. old ++ l) (sym (map-append (λ r. FlatItem (One r)) (take i rows) (row ∷ [])) ∙ ap row_items (sym (take_next rows i row lt at)))

pub loop-place-preserved : goal.loop-place-preserved
loop-place-preserved c =
    let lt : c.loop-place.place < length c.args.rows.now = omega arith in
    one_more c.args.self.now c.args.rows.now c.loop-place.place c.at.result.now c.loop-place.self c.push_values.new.self lt (c.at.ensures.row c.at.result.now)
    c.loop-place.invariant c.in_ok-push_values.ensures.ok

pub returns : goal.returns
returns c =
    let le : length c.args.rows.now ≤ c.loop-place.place = omega arith in
    c.loop-place.invariant ∙ ap (λ l. c.args.self.now ++ row_items l) (take_all c.loop-place.place c.args.rows.now le)
