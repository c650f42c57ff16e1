use Rattle.std.proofs.Common.{length}
use Rattle.std.specs.Prelude.{slice_index}
use Rattle.river_plan.specs.ByUsers.{IsKnownAt}
use Rattle.river_plan.specs.First.{Unless}
use Rattle.plan_check.proofs.Remains.{Remains}
use Rattle.plan_check.proofs.order.first_early.Given as goal

abbrev pub invariant-loop-port : goal.invariant-loop-port
invariant-loop-port l =
    Remains (λ before name. Unless
    (IsKnownAt (length l.raw.outputs) (length l.raw.inputs) l.op l.writers (slice_index l.places (length before))) name) l.reads l.port
