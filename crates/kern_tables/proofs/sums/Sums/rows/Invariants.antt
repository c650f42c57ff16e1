use Rattle.std.proofs.Common.{◌≡◌, ◌++◌}
use Rattle.kern_tables.specs.Entries.{sum_rows, AreShort}
use Rattle.kern_tables.proofs.sums.Sums.rows.Given as goal

abbrev pub invariant-loop-key : goal.invariant-loop-key
invariant-loop-key l = (l.rows ++ sum_rows l.key-iterator ≡ sum_rows l.self) × AreShort 15 l.key-iterator
