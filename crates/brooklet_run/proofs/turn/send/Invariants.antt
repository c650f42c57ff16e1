use Rattle.std.proofs.Common.{◌≡◌, take}
use Rattle.river_base.specs.Places.{each_grew, list_at}
use Rattle.brooklet_step.specs.ByPlace.{joined_at}
use Rattle.brooklet_step.proofs.Moving.{Emptied}
use Rattle.brooklet_run.proofs.turn.send.Given as goal

abbrev pub invariant-loop-port : goal.invariant-loop-port
invariant-loop-port l = record {
  queues : l.queues ≡ each_grew l.initial.queues (joined_at (take l.port l.to) (list_at l.initial.outs));
  left : Emptied l.port l.initial.outs l.outs;
}
