use Rattle.brooklet_step.proofs.Moving.{Emptied}
use Rattle.brooklet_step.proofs.emit.clear_lines.Given as goal

abbrev pub invariant-loop-place : goal.invariant-loop-place
invariant-loop-place l = Emptied l.place l.initial.lines l.lines
