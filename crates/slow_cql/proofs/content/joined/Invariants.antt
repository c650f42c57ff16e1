use Rattle.std.proofs.Common.{◌≡◌, take}
use Rattle.cql_model.specs.Meaning.{all_values}
use Rattle.slow_cql.proofs.content.joined.Given as goal

abbrev pub invariant-loop-row : goal.invariant-loop-row
invariant-loop-row l = l.values ≡ all_values (take l.row-index l.tuple)
