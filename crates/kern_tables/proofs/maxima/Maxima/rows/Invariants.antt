use Rattle.std.proofs.Common.{◌≡◌, ◌++◌}
use Rattle.kern_tables.specs.Entries.{maximum_rows, AreShort}
use Rattle.kern_tables.proofs.maxima.Maxima.rows.Given as goal

abbrev pub invariant-loop-key : goal.invariant-loop-key
invariant-loop-key l = (l.rows ++ maximum_rows l.key-iterator ≡ maximum_rows l.self) × AreShort 14 l.key-iterator
