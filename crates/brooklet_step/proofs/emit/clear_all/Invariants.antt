use Rattle.brooklet_step.proofs.Moving.{Emptied}
use Rattle.brooklet_step.proofs.emit.clear_all.Given as goal

abbrev pub invariant-loop-place : goal.invariant-loop-place
invariant-loop-place g l = Emptied l.place l.initial.lists l.lists
