use Rattle.cql_build.proofs.Querying.{querying_good, querying_next}
use Rattle.cql_build.proofs.queries.queries_among.Goals as goal

pub unit-requires-clause-short : goal.unit-requires-clause-short
unit-requires-clause-short c =
    (querying_good c.args.raw.now c.loop-part.raw c.args.uses.now c.loop-part.uses c.args.units.now c.loop-part.part-index c.loop-part.known c.part-item.result
    c.loop-part.invariant c.loop-part-test.true c.part-item.is).1

pub loop-part-preserved : goal.loop-part-preserved
loop-part-preserved c =
    querying_next c.args.raw.now c.loop-part.raw c.unit.new.raw c.args.uses.now c.loop-part.uses c.unit.new.uses c.args.units.now
    c.loop-part.part-index c.loop-part.known c.add.new.self c.part-item.result
    c.loop-part.invariant c.loop-part-test.true c.part-item.is c.in_ok-unit.ensures.grew c.in_ok-unit.ensures.used c.in_ok-add.ensures
