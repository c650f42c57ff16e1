use Rattle.std.proofs.Common.{◌≡◌, ◌≤◌, ◌+◌, ◌-◌, length, IfSome}
use Rattle.piece_work.specs.Cutting.{IsWindow}
use Rattle.piece_work.proofs.windows.fill.Given as goal

abbrev pub invariant-loop-size : goal.invariant-loop-size
invariant-loop-size g l = record {
  stays : g.S.Shelf.held l.shelf ≡ g.S.Shelf.held l.initial.shelf;
  later : g.S.Shelf.faults l.initial.shelf ≤ g.S.Shelf.faults l.shelf;
  within : l.start + length l.window.items ≤ 1099511889920;
  so : IfSome (g.S.Shelf.held l.initial.shelf) (λ h. IsWindow (h l.file) l.start l.window.items);
}

abbrev pub decreases-loop-size : goal.decreases-loop-size
decreases-loop-size g l = 1099511889920 - (l.start + length l.window.items)
