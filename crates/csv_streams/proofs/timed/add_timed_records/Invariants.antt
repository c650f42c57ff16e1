use Rattle.std.proofs.Common.{◌≡◌, ◌≤◌, ◌-◌, ◌+◌, ℕ, List, [], length}
use Rattle.std.specs.Prelude.{Ok}
use Rattle.csv_streams.specs.Records.{IsBehind}
use Rattle.csv_streams.specs.Rows.{headers, most_rows}
use Rattle.csv_streams.specs.Timed.{timed_rows_in}
use Rattle.csv_streams.proofs.timed.add_timed_records.Given as goal

abbrev pub invariant-loop-rec : goal.invariant-loop-rec
invariant-loop-rec l = record {
  header : l.header ≡ headers l.skip_first;
  last : l.last ≡ headers l.skip_first + most_rows;
  few : l.rec ≤ l.last;
  read : (bytes : List ℕ) → IsBehind bytes [] l.fn.rdr → (recs : List (List (List ℕ))) × IsBehind bytes recs l.rdr
      × (timed_rows_in l.width l.skip_first recs ≡ Ok l.rows) × (length recs ≡ l.rec);
}

abbrev pub decreases-loop-rec : goal.decreases-loop-rec
decreases-loop-rec l = l.last - l.rec
