use Rattle.std.proofs.Common.{◌≡◌, ◌≤◌, ◌-◌, length, drop}
use Rattle.kern_changes.specs.Needs.{rows_from}
use Rattle.slow_cql.proofs.bag.place_from.Given as goal

abbrev pub invariant-loop-place : goal.invariant-loop-place
invariant-loop-place l = record {
  within : l.place ≤ length l.rows;
  rest : rows_from l.row (drop l.place l.rows) ≡ rows_from l.row (drop l.fn.from l.rows);
}

abbrev pub decreases-loop-place : goal.decreases-loop-place
decreases-loop-place l = length l.rows - l.place
