use Rattle.std.proofs.Common.{◌≡◌, ◌≤◌, ◌+◌, ◌-◌, length, IfSome}
use Rattle.river_outside.specs.Held.{IsStartOfHeld}
use Rattle.river_outside.proofs.fetching.fetch.Given as goal

abbrev pub invariant-loop-shelf : goal.invariant-loop-shelf
invariant-loop-shelf g l = record {
  stays : g.S.Shelf.held l.shelf ≡ g.S.Shelf.held l.initial.shelf;
  later : g.S.Shelf.faults l.initial.shelf ≤ g.S.Shelf.faults l.shelf;
  most : length l.got ≤ l.limit + 1;
  start : IfSome (g.S.Shelf.held l.initial.shelf) (λ h. IsStartOfHeld (h l.name) l.got);
}

abbrev pub decreases-loop-shelf : goal.decreases-loop-shelf
decreases-loop-shelf g l = l.limit + 1 - length l.got
