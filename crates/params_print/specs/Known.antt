-- Values of names in memory, the newest first, each with the value that it hides.
use Rattle.std.specs.Prelude.{◌≡◌, ℤ, List, [], ◌∷◌}
use Rattle.indexmap.specs.IndexMap.{IndexMap, get}
use Rattle.river_base.specs.Name.{name_eq}
use Rattle.river_plan.specs.Forms.{Name}
use Rattle.streamit_model.specs.Meaning.{look}
use Rattle.params_model.specs.Environment.{Environment}
use Rattle.params_print.specs.declared.bindings.Binding.{Binding}

-- the names and their values
abbrev pub known_in : List Binding → Environment
known_in [] = []
known_in (b ∷ bs) = (b.name, b.value) ∷ known_in bs

-- each hides what its name stands for among the older ones
abbrev pub AreHidden : List Binding → Type 0
AreHidden [] = Unit {0}
AreHidden (b ∷ bs) = (b.hidden ≡ look (known_in bs) b.name) × AreHidden bs

-- the map has the newest value of each name
pub record IsByName {S : Type 0} (items : List Binding) (newest : IndexMap Name ℤ S) : Type 0 where
  pub found : (n : Name) → get name_eq newest n ≡ look (known_in items) n
  pub hidden : AreHidden items
