use Rattle.std.proofs.Common.{◌≡◌, ◌++◌, length}
use Rattle.river_langs.specs.Sources.{first_of_rows}
use Rattle.river_langs.proofs.records.values_of.Given as goal

abbrev pub invariant-loop-row : goal.invariant-loop-row
invariant-loop-row l = l.all ++ first_of_rows l.rows ≡ first_of_rows l.initial.rows

abbrev pub decreases-loop-row : goal.decreases-loop-row
decreases-loop-row l = length l.rows
