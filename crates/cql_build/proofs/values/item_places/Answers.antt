use Rattle.std.proofs.Common.{true, false, sym, ◌∙◌, arith}
use Rattle.cql_build.proofs.Lists.{item_places_next}
use Rattle.cql_build.proofs.values.item_places.Goals as goal
use Rattle.cql_build.proofs.values.item_places.Goals.{then-eq, else-eq}

pub loop-item-preserved : goal.loop-item-preserved
loop-item-preserved c =
    let i = c.loop-item.item-index in
    let x = c.item-item.result in
    let inv = c.loop-item.invariant in
    elim c.if-eq.branch [
      | then-eq w ↦
          let next = item_places_next c.args.name c.args.field c.args.items.now i x true c.loop-item-test.true c.item-item.is
          (sym c.eq.ensures ∙ w.if-eq.true) in
          let a = w.count.ensures in let b = w.saturating_add.ensures in let d = w.min-n.ensures in let n = w.n-is in
          omega (arith, next, inv, a, b, d, n)
      | else-eq w ↦
          let next = item_places_next c.args.name c.args.field c.args.items.now i x false c.loop-item-test.true c.item-item.is
          (sym c.eq.ensures ∙ w.if-eq.false) in
          let n = w.n-is in
          omega (arith, next, inv, n)
    ]
