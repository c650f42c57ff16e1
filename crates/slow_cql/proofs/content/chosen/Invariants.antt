use Rattle.std.proofs.Common.{◌≡◌, take, map}
use Rattle.cql_text.specs.Tree.{Column}
use Rattle.cql_model.specs.Meaning.{eval}
use Rattle.cql_text.specs.Tree.{chosen_of}
use Rattle.slow_cql.specs.Kept.{input_scope}
use Rattle.slow_cql.proofs.content.chosen.Given as goal

abbrev pub invariant-loop-column : goal.invariant-loop-column
invariant-loop-column l = l.values ≡ map (λ (c : Column). eval (input_scope l.inputs) c.value l.tuple) (chosen_of (take l.column-index l.columns))
