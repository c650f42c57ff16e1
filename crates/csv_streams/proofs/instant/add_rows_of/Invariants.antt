use Rattle.std.proofs.Common.{◌≡◌, ◌++◌, ℤ, List, drop, map}
use Rattle.csv_streams.proofs.instant.add_rows_of.Given as goal

abbrev pub invariant-loop-entry : goal.invariant-loop-entry
invariant-loop-entry l =
    l.rows ++ map (λ (e : ℤ × List ℤ). e.1) (drop l.entry-index l.entries) ≡ l.initial.rows ++ map (λ (e : ℤ × List ℤ). e.1) l.entries
