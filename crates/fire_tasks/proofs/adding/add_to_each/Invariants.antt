use Rattle.river_base.specs.Places.{list_at}
use Rattle.brooklet_step.proofs.Moving.{Emptied}
use Rattle.fire_tasks.proofs.CellLemmas.{AddedTo}
use Rattle.fire_tasks.proofs.adding.add_to_each.Given as goal

abbrev pub invariant-loop-port : goal.invariant-loop-port
invariant-loop-port l = record {
  emptied : Emptied l.port l.initial.adds l.adds;
  added : AddedTo l.op l.classes l.tables (list_at l.initial.adds) l.port l.initial.cells l.cells;
}
