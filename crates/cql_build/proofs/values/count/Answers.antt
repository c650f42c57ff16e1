use Rattle.std.proofs.Common.{ap, sym, ◌∙◌, arith}
use Rattle.river_plan.specs.Names.{one_if}
use Rattle.cql_build.proofs.Lists.{count_next}
use Rattle.cql_build.proofs.values.count.Goals as goal
use Rattle.cql_build.proofs.values.count.Goals.{then-eq, else-eq}

pub loop-other-preserved : goal.loop-other-preserved
loop-other-preserved c =
    let next = count_next c.args.name c.args.names.now c.loop-other.other-index c.other-item.result c.loop-other-test.true c.other-item.is in
    let inv = c.loop-other.invariant.is in
    let low = c.loop-other.invariant.low in
    elim c.if-eq.branch [
      | then-eq w ↦ let t =
          ap one_if (sym c.eq.ensures ∙ w.if-eq.true) in let n = w.n-is in record { is = omega (arith, next, inv, t, n); low = omega (arith, low, n) }
      | else-eq w ↦ let t =
          ap one_if (sym c.eq.ensures ∙ w.if-eq.false) in let n = w.n-is in record { is = omega (arith, next, inv, t, n); low = omega (arith, low, n) }
    ]
