use Rattle.std.proofs.Common.{◌≡◌, fold, drop}
use Rattle.kern_bags.specs.Contents.{later}
use Rattle.cql_pieces.specs.Moved.{times_of}
use Rattle.cql_pieces.proofs.bound.last_of.Given as goal

abbrev pub invariant-loop-row : goal.invariant-loop-row
invariant-loop-row l = fold later l.latest (times_of (drop l.row-index l.rows)) ≡ fold later l.bound (times_of l.rows)
