use Rattle.std.proofs.Common.{◌≡◌, drop}
use Rattle.cql_model.specs.Meaning.{field_in}
use Rattle.slow_cql.proofs.value.value_in.Given as goal

abbrev pub invariant-loop-i : goal.invariant-loop-i
invariant-loop-i l = field_in l.field l.fields l.values ≡ field_in l.field (drop l.i l.fields) (drop l.i l.values)
