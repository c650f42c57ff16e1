use Rattle.std.proofs.Common.{◌≡◌, take}
use Rattle.plan_check.proofs.Remains.{Remains}
use Rattle.river_plan.specs.First.{Unless}
use Rattle.river_plan.specs.Faults.{IsNew}
use Rattle.plan_check.proofs.search.add_new.Given as goal

abbrev pub invariant-loop-name : goal.invariant-loop-name
invariant-loop-name l = record {
  seen : l.set ≡ take l.name-index l.name-items;
  rest : Remains (λ before y. Unless (IsNew before y) y) l.name-items l.name-index;
}
