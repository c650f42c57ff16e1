use Rattle.brooklet_step.proofs.Moving.{Emptied}
use Rattle.river_base.specs.Places.{list_at}
use Rattle.fire_tasks.proofs.AddLemmas.{AddedTo}
use Rattle.fire_tasks.proofs.adding.add_rows.Given as goal

abbrev pub invariant-loop-port : goal.invariant-loop-port
invariant-loop-port l = record {
  emptied : Emptied l.port l.initial.adds l.adds;
  added : AddedTo l.op l.tables (list_at l.initial.adds) l.port l.initial.pile.items l.pile.items;
}
