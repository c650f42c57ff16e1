-- Where a firing of a filter stands, as the definition of its blocks has it.
use Rattle.std.specs.Prelude.{ℤ, pos, Option, Some, None}
use Rattle.indexmap.specs.IndexMap.{get}
use Rattle.river_base.specs.Name.{name_eq}
use Rattle.streamit_model.specs.Meaning as meaning
use Rattle.streamit_model.specs.Meaning.{State}
use Rattle.slow_streamit.specs.declared.firing.Store.{Store}
use Rattle.slow_streamit.specs.declared.firing.Firing.{Firing}

-- a name that has no value stands for 0
abbrev pub or_nought : Option ℤ → ℤ
or_nought None = pos 0
or_nought (Some z) = z

abbrev pub named_values : Store → meaning.Store
named_values v n = or_nought (get name_eq v.known n)

-- where the firing stands
abbrev pub firing_state : Firing → State
firing_state f = record { values = named_values f.values; popped = f.popped; pushed = f.pushed }
