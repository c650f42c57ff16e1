use Rattle.std.proofs.Common.{◌≡◌, ◌≤◌, ◌<◌, length, take, vec_capacity}
use Rattle.std.specs.Prelude.{slice_index}
use Rattle.class_locks.specs.Piles.{AllBelow, HasTaken, HasMoreTries}
use Rattle.class_locks.proofs.pile.take_each.Given as goal

abbrev pub invariant-loop-class : goal.invariant-loop-class
invariant-loop-class l = record {
  lot : l.seat.lot ≡ l.initial.seat.lot;
  taken : HasTaken (take l.class-index l.classes) l.initial.seat.view l.seat.view l.pile.items;
  tries : HasMoreTries l.initial.seat.view l.seat.view;
  below : l.class-index < length l.classes → AllBelow (slice_index l.classes l.class-index) l.seat.view.held;
  count : length l.pile.items ≡ l.class-index;
  room : length l.classes ≤ vec_capacity l.pile;
  same : vec_capacity l.pile ≡ vec_capacity l.initial.pile;
}
