use Rattle.std.proofs.Common.{◌≤◌, length}
use Rattle.kern_changes.proofs.Merged.{IsMerged}
use Rattle.slow_cql.proofs.bag.difference.Given as goal

abbrev pub invariant-loop-row : goal.invariant-loop-row
invariant-loop-row l = record {
  within : l.place ≤ length l.others;
  merged : IsMerged l.row-items l.others l.row-index l.place l.left;
}
