-- The order of declarations in the plans of programs.
use Rattle.river_plan.specs.InTurn.{IsInTurn}
use Rattle.cql_model.specs.Plannable.{IsPlannable}
use Rattle.cql_text.specs.Tree.{Program}
use Rattle.cql_model.specs.Plan.{plan_of}

abbrev pub PlansInTurn : Type 0
PlansInTurn = (p : Program) → IsPlannable p → IsInTurn (plan_of p)
