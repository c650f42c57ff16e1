use Rattle.std.proofs.Common.{arith}
use Rattle.kern_bags.proofs.Stepping.{pairs_more}
use Rattle.kern_bags.proofs.product.join_all.Goals as goal

pub loop-left-preserved : goal.loop-left-preserved
loop-left-preserved c =
    pairs_more c.args.lefts.now c.args.rights.now c.args.all.now c.loop-left.all c.join_each.new.all c.loop-left.left-index c.left-item.result
    (omega arith) c.left-item.is c.loop-left.invariant c.in_ok-join_each.ensures
