use Rattle.std.proofs.Common.{arith}
use Rattle.kern_changes.proofs.Making.{went_none, went_more, went_whole}
use Rattle.kern_changes.proofs.keyed.KeyedContent.take_all.Goals as goal

pub loop-row-init : goal.loop-row-init
loop-row-init c = went_none c.args.self.now

pub loop-row-preserved : goal.loop-row-preserved
loop-row-preserved c =
    went_more c.args.rows.now c.args.self.now c.loop-row.self c.take.new.self c.loop-row.row-index c.row-item.result
    (omega arith) c.row-item.is c.loop-row.invariant c.in_ok-take.ensures

pub returns : goal.returns
returns c = went_whole c.args.rows.now c.args.self.now c.loop-row.self c.loop-row.row-index (omega arith) c.loop-row.invariant
