use Rattle.std.proofs.Common.{◌≡◌}
use Rattle.river_base.specs.Places.{each_grew, upto, list_at}
use Rattle.brooklet_step.proofs.Moving.{Emptied}
use Rattle.fire_tasks.proofs.lots.add_lines.Given as goal

abbrev pub invariant-loop-port : goal.invariant-loop-port
invariant-loop-port l = record {
  grew : l.to ≡ each_grew l.initial.to (upto l.port (list_at l.initial.from));
  emptied : Emptied l.port l.initial.from l.from;
}
