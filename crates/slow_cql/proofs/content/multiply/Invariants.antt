use Rattle.std.proofs.Common.{◌≡◌, drop, map, fold}
use Rattle.cql_model.specs.Meaning.{with_each}
use Rattle.slow_cql.specs.Kept.{input_content}
use Rattle.slow_cql.specs.Contents.{product_at}
use Rattle.slow_cql.proofs.content.multiply.Given as goal

abbrev pub invariant-loop-input : goal.invariant-loop-input
invariant-loop-input l = fold with_each l.tuples (map (input_content l.at) (drop l.input-index l.inputs)) ≡ product_at l.at l.inputs
