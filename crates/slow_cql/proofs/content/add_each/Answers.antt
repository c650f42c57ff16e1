use Rattle.std.proofs.Common.{ℤ, List, [], ◌∷◌, ◌++◌, map, arith}
use Rattle.kern_bags.proofs.Taken.{join_next}
use Rattle.slow_cql.specs.Kept.{Entry}
use Rattle.slow_cql.proofs.content.add_each.Goals as goal

pub loop-tuple-preserved : goal.loop-tuple-preserved
loop-tuple-preserved c =
    join_next (λ (tuple : List (List ℤ)). map (λ row. tuple ++ row ∷ [])
    (map (λ (e : Entry). e.1) c.args.entries.now)) c.args.tuples.now c.loop-tuple.tuple-index c.tuple-item.result c.loop-tuple.all
    c.add_with.new.all (omega arith) c.tuple-item.is c.loop-tuple.invariant c.in_ok-add_with.ensures
