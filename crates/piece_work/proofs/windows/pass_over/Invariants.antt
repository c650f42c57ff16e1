use Rattle.std.proofs.Common.{◌≡◌, ◌≤◌, ◌-◌, IfSome}
use Rattle.piece_work.specs.Cutting.{HasFront}
use Rattle.piece_work.proofs.windows.pass_over.Given as goal

abbrev pub invariant-loop-at : goal.invariant-loop-at
invariant-loop-at g l = record {
  stays : g.S.Shelf.held l.shelf ≡ g.S.Shelf.held l.initial.shelf;
  later : g.S.Shelf.faults l.initial.shelf ≤ g.S.Shelf.faults l.shelf;
  before : l.at ≤ l.from;
  within : l.at ≤ 1099511889920;
  front : IfSome (g.S.Shelf.held l.initial.shelf) (λ h. HasFront (h l.file) l.at);
}

abbrev pub decreases-loop-at : goal.decreases-loop-at
decreases-loop-at g l = l.from - l.at
