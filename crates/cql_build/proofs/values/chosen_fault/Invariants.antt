use Rattle.std.proofs.Common.{◌≡◌, drop}
use Rattle.cql_model.specs.Judged.{chosen_fault}
use Rattle.cql_text.specs.Tree.{chosen_of}
use Rattle.cql_build.specs.Views.{scope}
use Rattle.cql_build.proofs.values.chosen_fault.Given as goal

abbrev pub invariant-loop-i : goal.invariant-loop-i
invariant-loop-i l = chosen_fault (scope l.items) 0 (chosen_of l.columns) ≡ chosen_fault (scope l.items) l.i (chosen_of (drop l.i l.columns))
