use Rattle.river_plan.proofs.NameLemmas.{nat_zero, not_false}
use Rattle.rw_local.proofs.CodeLemmas.{share_next}
use Rattle.rw_local.proofs.names.share.Goals as goal

pub loop-name-preserved : goal.loop-name-preserved
loop-name-preserved c =
    share_next c.args.others.now _ c.loop-name.name-index c.name-item.result c.loop-name-test.true c.name-item.is
    (nat_zero (λ lt. not_false (c.if-contains.ensures.1 lt))) c.loop-name.invariant
