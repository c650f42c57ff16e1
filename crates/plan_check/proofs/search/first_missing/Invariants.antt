use Rattle.plan_check.proofs.Remains.{Remains}
use Rattle.river_plan.specs.First.{Unless}
use Rattle.river_plan.specs.Faults.{IsIn}
use Rattle.plan_check.proofs.search.first_missing.Given as goal

abbrev pub invariant-loop-name : goal.invariant-loop-name
invariant-loop-name l = Remains (λ before y. Unless (IsIn l.set before y) y) l.name-items l.name-index
