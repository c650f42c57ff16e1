use Rattle.std.proofs.Common.{◌≡◌, take, map}
use Rattle.cql_model.specs.Meaning.{where_true, selected_row}
use Rattle.cql_text.specs.Tree.{columns_of, condition_of}
use Rattle.slow_cql.specs.Kept.{input_scope}
use Rattle.slow_cql.proofs.content.selected.Given as goal

abbrev pub invariant-loop-tuple : goal.invariant-loop-tuple
invariant-loop-tuple l =
    l.rows ≡ map (selected_row (input_scope l.inputs) (columns_of l.query.columns))
    (where_true (input_scope l.inputs) (condition_of l.query.condition) (take l.tuple-index l.tuples))
