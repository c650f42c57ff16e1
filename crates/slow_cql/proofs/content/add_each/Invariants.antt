use Rattle.std.proofs.Common.{◌≡◌, take, map}
use Rattle.cql_model.specs.Meaning.{with_each}
use Rattle.slow_cql.specs.Kept.{Entry}
use Rattle.slow_cql.proofs.content.add_each.Given as goal

abbrev pub invariant-loop-tuple : goal.invariant-loop-tuple
invariant-loop-tuple l = l.all ≡ with_each (take l.tuple-index l.tuples) (map (λ (e : Entry). e.1) l.entries)
