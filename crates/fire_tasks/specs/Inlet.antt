-- What contracts see of where an operator takes from.
use Rattle.std.specs.Prelude.{ℕ, List}
use Rattle.river_base.specs.declared.item.Item as item
use Rattle.river_rings.specs.Ends.{Taking}
use Rattle.fire_tasks.specs.declared.ports.InletEnd as end
use Rattle.fire_tasks.specs.declared.ports.InletEnd.TheVariants as ends

-- the whole list of an input of the plan, and how many of its items were taken
pub record KeptList : Type 0 where
  pub line : List item.Item
  pub taken : ℕ

-- the end of a ring, or a kept list
pub data Inlet : Type 0 where
  TakesFrom : Taking → Inlet
  Given : KeptList → Inlet

-- this is seen of an end: a ring of rows is one of the items that these are
abbrev pub inlet_of : end.InletEnd → Inlet
inlet_of (ends.Items t) = TakesFrom t
inlet_of (ends.Rows t) = TakesFrom t
inlet_of (ends.Kept k) = Given (record { line = k.line; taken = k.taken })
