use Rattle.std.proofs.Common.{◌≡◌, take, map}
use Rattle.river_plan.specs.Forms.{op_forms}
use Rattle.river_plan.specs.Places.{names_of, places}
use Rattle.plan_check.proofs.wired.op_places.Given as goal

abbrev pub invariant-loop-op : goal.invariant-loop-op
invariant-loop-op l = l.all ≡ map (λ op. places l.set (names_of l.role op)) (op_forms (take l.op-index l.op-items))
