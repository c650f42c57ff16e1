use Rattle.std.proofs.Common.{◌≡◌, drop}
use Rattle.cql_model.specs.Meaning.{item_value}
use Rattle.slow_cql.specs.Kept.{input_scope}
use Rattle.slow_cql.proofs.value.item_value.Given as goal

abbrev pub invariant-loop-i : goal.invariant-loop-i
invariant-loop-i l = item_value l.item l.field (input_scope l.inputs) l.tuple ≡ item_value l.item l.field (drop l.i (input_scope l.inputs)) (drop l.i l.tuple)
