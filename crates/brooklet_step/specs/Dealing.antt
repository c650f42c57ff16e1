-- How a splitter passes one item.
use Rattle.std.specs.Prelude.{◌≡◌, ℕ, List}
use Rattle.river_base.specs.declared.item.Change.{Change}
use Rattle.river_base.specs.declared.item.Flat as flat
use Rattle.river_base.specs.declared.item.Item as item
use Rattle.river_base.specs.declared.item.Item.TheVariants.{Flat}
use Rattle.river_base.specs.declared.item.Flat.TheVariants.{Change as Changed}
use Rattle.kern_changes.specs.declared.owed.Debt.{Debt}
use Rattle.kern_rows.specs.Dealing.{DealsChange}
use Rattle.brooklet_step.specs.Stands.{IsChange}

-- a change came: what is given is the change of the list at this place
pub record DealsAsChange (place : ℕ) (c : Change) (old new : List Debt) (g : item.Item) : Type 0 where
  pub given : flat.Flat
  pub is : g ≡ Flat given
  pub deals : DealsChange place c old new given

-- an item came, and g goes to the list at this place: the item itself, and nothing more is owed; or the change of the list
pub record DealsItem (place : ℕ) (i : item.Item) (old new : List Debt) (g : item.Item) : Type 0 where
  pub plain : (IsChange i → ⊥) → (g ≡ i) × (new ≡ old)
  pub change : (c : Change) → i ≡ Flat (Changed c) → DealsAsChange place c old new g
