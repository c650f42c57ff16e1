use Rattle.std.proofs.Common.{◌≡◌, take}
use Rattle.std.specs.List.{flat_map}
use Rattle.cql_model.specs.Scopes.{Named}
use Rattle.slow_cql.specs.Kept.{input_scope}
use Rattle.slow_cql.proofs.names.all_fields.Given as goal

abbrev pub invariant-loop-input : goal.invariant-loop-input
invariant-loop-input l = l.names ≡ flat_map (λ (i : Named). i.fields) (input_scope (take l.input-index l.inputs))
