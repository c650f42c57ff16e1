use Rattle.std.proofs.Common.{◌≡◌, take}
use Rattle.river_base.specs.Places.{each_grew}
use Rattle.river_plan.specs.Places.{as_often}
use Rattle.plan_check.proofs.wired.add_user.Given as goal

abbrev pub invariant-loop-port : goal.invariant-loop-port
invariant-loop-port l = l.all ≡ each_grew l.initial.all (as_often (take l.port l.places) l.number)
