use Rattle.std.proofs.Common.{take}
use Rattle.fire_open.proofs.TakenLemmas.{InsOf}
use Rattle.fire_open.proofs.tasks.ins_of.Given as goal

abbrev pub invariant-loop-place : goal.invariant-loop-place
invariant-loop-place l = InsOf l.initial.queues (take l.place-index l.places) l.ins l.queues
