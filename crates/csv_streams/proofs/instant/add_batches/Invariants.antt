use Rattle.std.proofs.Common.{◌≡◌, ◌≤◌, ◌++◌, length, drop}
use Rattle.river_base.specs.Instants.{at_instant, spread}
use Rattle.csv_streams.proofs.instant.add_batches.Given as goal

abbrev pub invariant-loop-at : goal.invariant-loop-at
invariant-loop-at l = record {
  within : l.next ≤ length l.rows;
  so_far : l.items ++ spread (drop l.at-index l.instants) (at_instant l.rows) ≡ l.initial.items ++ spread l.instants (at_instant l.rows);
}
