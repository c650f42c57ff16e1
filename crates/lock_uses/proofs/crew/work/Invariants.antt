use Rattle.std.proofs.Common.{◌≡◌}
use Rattle.lock_uses.specs.Uses.{HasWorked}
use Rattle.lock_uses.proofs.crew.work.Given as goal

abbrev pub invariant-loop-try : goal.invariant-loop-try
invariant-loop-try l = record {
  lot : l.seat.lot ≡ l.initial.seat.lot;
  worked : HasWorked l.op l.added l.initial.seat.view l.seat.view;
}
