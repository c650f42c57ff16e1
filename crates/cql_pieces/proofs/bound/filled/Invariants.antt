use Rattle.std.proofs.Common.{◌≡◌, drop}
use Rattle.cql_pieces.specs.Moved.{last_wanting}
use Rattle.cql_pieces.proofs.bound.filled.Given as goal

abbrev pub invariant-loop-row : goal.invariant-loop-row
invariant-loop-row l = last_wanting l.bound l.wanting l.latest (drop l.row-index l.rows) ≡ last_wanting l.bound l.most l.bound l.rows
