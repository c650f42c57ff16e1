use Rattle.std.proofs.Common.{length}
use Rattle.river_plan.specs.Forms.{plan_form}
use Rattle.fire_tasks.proofs.LotLemmas.{FiredTo}
use Rattle.fire_tasks.proofs.lots.fire_rows.Given as goal

abbrev pub invariant-loop-rest : goal.invariant-loop-rest
invariant-loop-rest g l = FiredTo (plan_form l.plan) l.port l.width l.values l.rest l.initial.task l.task l.initial.owed l.owed

abbrev pub decreases-loop-rest : goal.decreases-loop-rest
decreases-loop-rest g l = length l.rest
