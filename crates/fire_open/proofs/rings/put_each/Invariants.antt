use Rattle.river_plan.specs.Caps.{own_of}
use Rattle.fire_open.specs.Links.{room_of}
use Rattle.fire_open.specs.Rings.{AreRung}
use Rattle.fire_open.proofs.rings.put_each.Given as goal

abbrev pub invariant-loop-place : goal.invariant-loop-place
invariant-loop-place l = AreRung (room_of l.plan l.cap (own_of l.own)) l.initial.tasks l.tasks l.links l.place
