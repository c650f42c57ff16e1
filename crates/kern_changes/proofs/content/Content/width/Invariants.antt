use Rattle.std.proofs.Common.{◌≡◌}
use Rattle.kern_changes.specs.Counted.{rows_counted}
use Rattle.kern_changes.proofs.content.Content.width.Given as goal

abbrev pub invariant-loop-row : goal.invariant-loop-row
invariant-loop-row l = rows_counted l.row-iterator ≡ l.self
