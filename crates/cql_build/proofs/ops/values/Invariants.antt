use Rattle.std.proofs.Common.{◌≡◌, take}
use Rattle.work_code.specs.Term.{terms}
use Rattle.cql_model.specs.Plan.{terms_of}
use Rattle.cql_text.specs.Tree.{chosen_of}
use Rattle.cql_build.specs.Views.{scope}
use Rattle.cql_build.proofs.ops.values.Given as goal

abbrev pub invariant-loop-column : goal.invariant-loop-column
invariant-loop-column l = terms l.all ≡ terms_of (scope l.items) (chosen_of (take l.column-index l.columns))
