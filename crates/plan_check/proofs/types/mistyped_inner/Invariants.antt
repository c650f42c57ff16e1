use Rattle.river_plan.specs.First.{Unless}
use Rattle.river_plan.specs.Faults.{HasWidth}
use Rattle.plan_check.proofs.Remains.{Remains}
use Rattle.plan_check.proofs.types.mistyped_inner.Given as goal

abbrev pub invariant-loop-decl : goal.invariant-loop-decl
invariant-loop-decl l = Remains (λ before d. Unless (HasWidth d) d) l.decl-items l.decl-index
