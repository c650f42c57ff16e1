-- What a River text means: the plan that it stands for, or why it has none. It is read, then checked.
use Rattle.std.specs.Prelude.{◌≡◌, ℕ, List, Option, Some, None, Result, Ok, Err}
use Rattle.river_plan.specs.Told.{fault_of}
use Rattle.river_plan.specs.declared.fault.PlanFault.{PlanFault}
use Rattle.river_plan.specs.declared.fault.PlanFault.TheVariants as plan
use Rattle.text_forms.specs.declared.text_fault.TextFault.{TextFault}
use Rattle.text_forms.specs.declared.text_fault.TextFault.TheVariants.{NoMemory}
use Rattle.river_text.specs.Plans.{TextForm}
use Rattle.river_text.specs.ReadPlans.{lists_in}
use Rattle.river_text.specs.declared.river_fault.RiverFault.{RiverFault}
use Rattle.river_text.specs.declared.river_fault.RiverFault.TheVariants.{Text, Plan}

-- a fault of the check among those of the front
abbrev pub from_plan : PlanFault → RiverFault
from_plan plan.NoMemory = Text NoMemory
from_plan fault = Plan fault

-- what was read, where the lists have no fault
abbrev pub or_fault : TextForm → Option PlanFault → Result TextForm RiverFault
or_fault t None = Ok t
or_fault t (Some fault) = Err (Plan fault)

unfoldable pub checked : TextForm → Result TextForm RiverFault
checked t = or_fault t (fault_of t.plan)

-- what is read is checked
abbrev pub then_checked : Result TextForm TextFault → Result TextForm RiverFault
then_checked (Ok t) = checked t
then_checked (Err fault) = Err (Text fault)

-- the plan of a text and the capacities of its queues, or why it has none
unfoldable pub plan_in : List ℕ → Result TextForm RiverFault
plan_in text = then_checked (lists_in text)

-- this is why there is no plan; want of memory says nothing
abbrev pub Refused : Result TextForm RiverFault → RiverFault → Type 0
Refused meant (Text NoMemory) = Unit {0}
Refused meant fault = meant ≡ Err fault
