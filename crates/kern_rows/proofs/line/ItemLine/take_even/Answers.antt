use Rattle.std.proofs.Common.{◌≡◌, ℤ, List, ◌++◌, [], sym, ap, ◌∙◌, arith}
use Rattle.std.proofs.lemmas.List.{map-append, append-nil, nil_from_length}
use Rattle.std.proofs.lemmas.Bool.Decides.{nat_tests}
use Rattle.river_base.specs.declared.item.Item as item
use Rattle.river_base.specs.declared.item.Flat.TheVariants.{One}
use Rattle.river_base.specs.declared.item.Item.TheVariants.{Flat as FlatItem}
use Rattle.kern_rows.specs.Even.{row_items}
use Rattle.kern_rows.proofs.line.ItemLine.take_even.Goals as goal

-- rows that moved to the end of others, where nothing is behind those
moved : (rs ss rs2 ss2 : List (List ℤ)) (others old : List item.Item) → others ≡ [] → row_items rs ++ others ≡ old → rs2 ++ ss2 ≡ rs ++ ss
    → (row_items rs2 ++ others) ++ row_items ss2 ≡ old ++ row_items ss
moved rs ss rs2 ss2 others old none is e =
    ap (λ l. (row_items rs2 ++ l) ++ row_items ss2) none ∙ ap (λ l. l ++ row_items ss2) (append-nil (row_items rs2))
    ∙ sym (map-append (λ r. FlatItem (One r)) rs2 ss2) ∙ ap row_items e ∙ map-append (λ r. FlatItem (One r)) rs ss
    ∙ ap (λ l. l ++ row_items ss) (sym (append-nil (row_items rs)) ∙ ap (λ l. row_items rs ++ l) (sym none) ∙ is)

pub returns-in_ok-take_from : goal.returns-in_ok-take_from
returns-in_ok-take_from c =
    let os = c.self.inside.others in
    let none : os.items ≡ [] = (
    let h = c.if-is_empty.ensures in
    let o = os.ok.0 in
    nil_from_length os.items (grind (arith, nat_tests, h, o))
    ) in
    moved c.self.inside.rows c.args.rows.now c.take_from.new.self c.take_from.new.other c.self.inside.others.items c.args.self.now none c.self.view_is
    c.in_ok-take_from.ensures.ok
