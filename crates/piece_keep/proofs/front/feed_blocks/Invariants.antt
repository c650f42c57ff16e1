use Rattle.std.proofs.Common.{◌≡◌, ℕ, ◌≤◌, ◌-◌, List, IfSome}
use Rattle.piece_work.specs.Cutting.{HasFront}
use Rattle.piece_keep.specs.Fed.{FedFront}
use Rattle.piece_keep.proofs.front.feed_blocks.Given as goal

abbrev pub invariant-loop-from : goal.invariant-loop-from
invariant-loop-from g l = record {
  stays : g.S.Shelf.held l.shelf ≡ g.S.Shelf.held l.initial.shelf;
  later : g.S.Shelf.faults l.initial.shelf ≤ g.S.Shelf.faults l.shelf;
  before : l.from ≤ l.at;
  within : l.from ≤ 1099511889920;
  front : IfSome (g.S.Shelf.held l.initial.shelf) (λ h. HasFront (h l.file) l.from);
  fed : (m : List ℕ) → g.D.Digest.holds l.initial.to m → IfSome (g.S.Shelf.held l.initial.shelf) (λ h. FedFront (g.D.Digest.holds l.to) m (h l.file) l.from);
}

abbrev pub decreases-loop-from : goal.decreases-loop-from
decreases-loop-from g l = l.at - l.from
