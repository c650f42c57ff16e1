use Rattle.std.proofs.Common.{◌≡◌}
use Rattle.river_base.specs.Places.{each_grew, upto, list_at}
use Rattle.brooklet_step.proofs.Moving.{Emptied}
use Rattle.fire_tasks.proofs.lots.add_lists.Given as goal

abbrev pub invariant-loop-table : goal.invariant-loop-table
invariant-loop-table l = record {
  grew : l.to ≡ each_grew l.initial.to (upto l.table (list_at l.initial.from));
  emptied : Emptied l.table l.initial.from l.from;
}
