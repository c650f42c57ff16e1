use Rattle.std.proofs.Common.{arith}
use Rattle.cql_build.proofs.Lists.{places_next}
use Rattle.cql_build.proofs.values.places.Goals as goal

pub loop-item-preserved : goal.loop-item-preserved
loop-item-preserved c =
    let next = places_next c.args.field c.args.items.now c.loop-item.item-index c.item-item.result c.loop-item-test.true c.item-item.is in
    let inv = c.loop-item.invariant in
    let a = c.count.ensures in
    let b = c.saturating_add.ensures in
    let d = c.min-n.ensures in
    omega (arith, next, inv, a, b, d)
