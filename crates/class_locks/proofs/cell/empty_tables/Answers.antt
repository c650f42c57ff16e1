use Rattle.class_locks.proofs.Cells.{one_table_more}
use Rattle.class_locks.proofs.cell.empty_tables.Goals as goal

pub loop-kind-preserved : goal.loop-kind-preserved
loop-kind-preserved c =
    one_table_more c.as_slice-kind-items.result.now c.args.kinds.now c.loop-kind.kind-index _ c.loop-kind.tables.items c.push.new.self.items
    c.new.result c.as_slice-kind-items.ensures c.loop-kind-test.true c.new.ensures c.in_ok-push.ensures.items c.loop-kind.invariant
