use Rattle.std.proofs.Common.{◌≡◌, take}
use Rattle.brooklet_step.proofs.Moving.{Untouched}
use Rattle.brooklet_run.proofs.ending.first_lists.Given as goal

abbrev pub invariant-loop-place : goal.invariant-loop-place
invariant-loop-place l = record {
  lists : l.lists ≡ take l.place l.initial.queues;
  left : Untouched l.place l.initial.queues l.queues;
}
