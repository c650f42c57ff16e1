use Rattle.std.proofs.Common.{◌≡◌, drop}
use Rattle.cql_model.specs.Meaning.{field_value}
use Rattle.slow_cql.specs.Kept.{input_scope}
use Rattle.slow_cql.proofs.value.field_value.Given as goal

abbrev pub invariant-loop-i : goal.invariant-loop-i
invariant-loop-i l = field_value l.field (input_scope l.inputs) l.tuple ≡ field_value l.field (drop l.i (input_scope l.inputs)) (drop l.i l.tuple)
