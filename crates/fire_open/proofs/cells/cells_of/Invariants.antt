use Rattle.fire_open.proofs.ClassLemmas.{CellsSoFar}
use Rattle.fire_open.proofs.cells.cells_of.Given as goal

abbrev pub invariant-loop-class : goal.invariant-loop-class
invariant-loop-class l = CellsSoFar l.plan l.class l.cells
