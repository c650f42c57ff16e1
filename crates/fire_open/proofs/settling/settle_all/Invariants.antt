use Rattle.fire_open.proofs.SettleLemmas.{Settling}
use Rattle.fire_open.proofs.settling.settle_all.Given as goal

abbrev pub invariant-loop-place : goal.invariant-loop-place
invariant-loop-place l = Settling l.initial.tasks l.links l.place l.tasks
