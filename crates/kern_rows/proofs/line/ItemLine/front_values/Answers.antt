use Rattle.std.proofs.Common.{rules, ◌≡◌, List, [], ◌∷◌}
use Rattle.std.specs.Prelude.{Some, slice_get}
use Rattle.river_base.specs.declared.item.Item.{Item}
use Rattle.kern_rows.proofs.line.ItemLine.front_values.Goals as goal

-- where there is an item at place 0, it is the front one
front_is : (all : List Item) (x : Item) → slice_get all 0 ≡ Some x → (rest : List Item) × (all ≡ x ∷ rest)
front_is [] x e = absurd (cc)
front_is (y ∷ ys) x e = (ys, cc)

pub returns-clause-front : goal.returns-clause-front
returns-clause-front c = search (rules, front_is)
