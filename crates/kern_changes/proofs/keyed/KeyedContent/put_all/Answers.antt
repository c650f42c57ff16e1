use Rattle.std.proofs.Common.{arith}
use Rattle.kern_changes.proofs.Making.{came_none, came_more, came_whole}
use Rattle.kern_changes.proofs.keyed.KeyedContent.put_all.Goals as goal

pub loop-row-init : goal.loop-row-init
loop-row-init c = came_none c.args.self.now

pub loop-row-preserved : goal.loop-row-preserved
loop-row-preserved c =
    came_more c.args.rows.now c.args.self.now c.loop-row.self c.put.new.self c.loop-row.row-index c.row-item.result
    (omega arith) c.row-item.is c.loop-row.invariant c.in_ok-put.ensures

pub returns : goal.returns
returns c = came_whole c.args.rows.now c.args.self.now c.loop-row.self c.loop-row.row-index (omega arith) c.loop-row.invariant
