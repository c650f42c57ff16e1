use Rattle.std.proofs.Common.{◌≡◌, take}
use Rattle.std.specs.List.{flat_map}
use Rattle.cql_model.specs.Scopes.{Named}
use Rattle.cql_build.specs.Views.{scope}
use Rattle.cql_build.proofs.columns.all_fields.Given as goal

abbrev pub invariant-loop-item : goal.invariant-loop-item
invariant-loop-item l = l.names ≡ flat_map (λ (i : Named). i.fields) (scope (take l.item-index l.items))
