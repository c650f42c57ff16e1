use Rattle.std.proofs.Common.{◌≡◌, ℕ, ℤ, ◌≤◌, ◌<◌, ◌-◌, List, true, length, get_or, int_le}
use Rattle.csv_streams.proofs.instant.end_at.Given as goal

abbrev pub invariant-loop-end : goal.invariant-loop-end
invariant-loop-end l = record {
  order : l.first ≤ l.end;
  within : l.end ≤ length l.rows;
  passed : (k : ℕ) (d : ℤ × List ℤ) → k < l.end → int_le (get_or l.rows k d).0 l.at ≡ true;
}

abbrev pub decreases-loop-end : goal.decreases-loop-end
decreases-loop-end l = length l.rows - l.end
