use Rattle.std.specs.Prelude.{◌≡◌, []}
use Rattle.fire_run.specs.Shares.{seats_of}
use Rattle.fire_run.proofs.GatherLemmas.{Merging}
use Rattle.fire_run.proofs.joining.one_seat.Given as goal

abbrev pub invariant-loop-bundle : goal.invariant-loop-bundle
invariant-loop-bundle l = record {
  merging : Merging (seats_of l.fn.bundles.items) (seats_of l.bundles.items) l.seat.view;
  lot : l.seat.lot ≡ l.initial.seat.lot;
  rests : l.seat.view.held ≡ [];
}

abbrev pub decreases-loop-bundle : goal.decreases-loop-bundle
decreases-loop-bundle l = goal.left-loop-bundle l
