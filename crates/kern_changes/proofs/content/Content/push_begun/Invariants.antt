use Rattle.std.proofs.Common.{◌≡◌, ◌++◌}
use Rattle.kern_changes.specs.Counted.{rows_counted}
use Rattle.kern_changes.specs.Keyed.{begun}
use Rattle.kern_changes.proofs.content.Content.push_begun.Given as goal

abbrev pub invariant-loop-row : goal.invariant-loop-row
invariant-loop-row l = l.all ++ begun l.value (rows_counted l.row-iterator) ≡ l.initial.all ++ begun l.value l.self
