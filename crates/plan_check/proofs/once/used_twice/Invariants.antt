use Rattle.std.proofs.Common.{length}
use Rattle.river_base.specs.Places.{list_at}
use Rattle.river_plan.specs.ByUsers.{IsOnceAt}
use Rattle.river_plan.specs.First.{Unless}
use Rattle.plan_check.proofs.Remains.{Remains}
use Rattle.plan_check.proofs.once.used_twice.Given as goal

abbrev pub invariant-loop-place : goal.invariant-loop-place
invariant-loop-place l =
    Remains (λ before name. Unless (IsOnceAt l.first l.count (length before) (length (list_at l.users (length before)))) name) l.names l.place
