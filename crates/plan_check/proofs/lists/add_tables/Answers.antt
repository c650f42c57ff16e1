use Rattle.std.proofs.Common.{refl}
use Rattle.plan_check.proofs.MapLoops.{map_next_behind}
use Rattle.plan_check.proofs.lists.add_tables.Goals as goal

pub loop-table-preserved : goal.loop-table-preserved
loop-table-preserved c =
    map_next_behind (λ d. d.name) c.args.names.now c.loop-table.names c.push.new.self _ c.loop-table.table-index c.table-item.result _
    c.loop-table-test.true c.table-item.is refl c.in_ok-push.ensures.ok c.loop-table.invariant
