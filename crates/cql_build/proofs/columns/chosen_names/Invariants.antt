use Rattle.std.proofs.Common.{◌≡◌, ◌+◌, ◌++◌, drop}
use Rattle.cql_model.specs.Scopes.{names_from}
use Rattle.cql_text.specs.Tree.{chosen_of}
use Rattle.cql_build.proofs.columns.chosen_names.Given as goal

abbrev pub invariant-loop-i : goal.invariant-loop-i
invariant-loop-i l = names_from 1 (chosen_of l.columns) ≡ l.names ++ names_from (l.i + 1) (chosen_of (drop l.i l.columns))
