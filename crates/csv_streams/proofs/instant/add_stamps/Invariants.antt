use Rattle.std.proofs.Common.{◌≡◌, ◌≤◌, ◌++◌, ℤ, List, length, take, drop, map}
use Rattle.csv_streams.proofs.instant.add_stamps.Given as goal

abbrev pub invariant-loop-entry : goal.invariant-loop-entry
invariant-loop-entry l = record {
  text : l.stamps ++ map (λ (e : ℤ × List ℤ). e.0) (drop l.entry-index l.entry-items) ≡ l.initial.stamps ++ map (λ (e : ℤ × List ℤ). e.0) l.file;
  front : take l.had l.stamps ≡ l.initial.stamps;
  long : l.had ≤ length l.stamps;
}
