use Rattle.std.proofs.Common.{length}
use Rattle.river_base.specs.Places.{list_at}
use Rattle.river_plan.specs.ByUsers.{IsApartAt}
use Rattle.river_plan.specs.First.{Unless}
use Rattle.plan_check.proofs.Remains.{Remains}
use Rattle.plan_check.proofs.once.first_shared.Given as goal

abbrev pub invariant-loop-place : goal.invariant-loop-place
invariant-loop-place l = Remains (λ before name. Unless (IsApartAt l.tables (length before) (list_at l.users (length before))) name) l.names l.place
