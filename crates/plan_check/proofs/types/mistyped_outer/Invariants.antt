use Rattle.river_plan.specs.First.{Unless}
use Rattle.river_plan.specs.Faults.{IsOuter}
use Rattle.plan_check.proofs.Remains.{Remains}
use Rattle.plan_check.proofs.types.mistyped_outer.Given as goal

abbrev pub invariant-loop-decl : goal.invariant-loop-decl
invariant-loop-decl l = Remains (λ before d. Unless (IsOuter d) d) l.decl-items l.decl-index
