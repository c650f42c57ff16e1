use Rattle.std.proofs.Common.{◌≡◌, drop}
use Rattle.cql_pieces.specs.Piece.{next_after}
use Rattle.cql_pieces.proofs.bound.next_after.Given as goal

abbrev pub invariant-loop-instant : goal.invariant-loop-instant
invariant-loop-instant l = next_after l.bound (drop l.instant-index l.instants) ≡ next_after l.bound l.instants
