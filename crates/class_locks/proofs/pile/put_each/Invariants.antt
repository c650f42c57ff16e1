use Rattle.std.proofs.Common.{◌≡◌, ◌++◌, reverse, vec_capacity}
use Rattle.class_locks.specs.Piles.{IsPile, gained}
use Rattle.class_locks.proofs.pile.put_each.Given as goal

abbrev pub invariant-loop-class : goal.invariant-loop-class
invariant-loop-class l = record {
  lot : l.seat.lot ≡ l.initial.seat.lot;
  seats : l.seat.view.seats ≡ l.initial.seat.view.seats;
  starts : l.seat.view.starts ≡ l.initial.seat.view.starts;
  takes : l.seat.view.takes ≡ l.initial.seat.view.takes;
  parts : l.seat.view.parts ≡ l.initial.seat.view.parts;
  pile : IsPile l.seat.view l.pile.items;
  same : vec_capacity l.pile ≡ vec_capacity l.initial.pile;
  claims : l.seat.view.claims ++ gained (reverse l.pile.items) l.seat.view.held ≡ l.initial.seat.view.claims ++ gained
      (reverse l.initial.pile.items) l.initial.seat.view.held;
}

abbrev pub decreases-loop-class : goal.decreases-loop-class
decreases-loop-class l = goal.left-loop-class l
