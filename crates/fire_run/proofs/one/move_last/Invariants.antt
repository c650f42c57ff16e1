use Rattle.fire_run.proofs.MoveLemmas.{Walking}
use Rattle.fire_run.proofs.one.move_last.Given as goal

abbrev pub invariant-loop-back : goal.invariant-loop-back
invariant-loop-back g l = Walking l.initial.tasks l.initial.cells l.back l.tasks l.cells
