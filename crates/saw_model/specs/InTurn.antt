-- The order of declarations in the plan of a program: queues and tables stand as the operators first use them.
use Rattle.std.specs.Prelude.{◌≡◌, Ok}
use Rattle.work_code.specs.Steps.{Steps}
use Rattle.river_plan.specs.InTurn.{IsInTurn}
use Rattle.saw_model.specs.Elaborate.{At}
use Rattle.saw_model.specs.Judged.{judged}
use Rattle.saw_model.specs.Plan.{plan_of}
use Rattle.saw_text.specs.Tree.{Program}

-- the plan of a program that is accepted has this order
abbrev pub PlansInTurn : Type 0
PlansInTurn = (p : Program) (read : Steps × At) → judged p ≡ Ok read → IsInTurn (plan_of p read)
