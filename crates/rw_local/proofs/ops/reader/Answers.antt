use Rattle.river_plan.specs.Uses.{reads_it}
use Rattle.river_plan.proofs.NameLemmas.{nat_zero, not_false}
use Rattle.std.proofs.Common.{refl}
use Rattle.rw_local.proofs.OpLoops.{total_next, found_at, found_none}
use Rattle.rw_local.proofs.ops.reader.Goals as goal

pub returns-then-contains : goal.returns-then-contains
returns-then-contains c =
    found_at (reads_it c.args.queue) _ _ _ c.op-item.result c.loop-op-test.true c.op-item.is c.as_slice-op-items.ensures
    (c.if-contains.ensures.0 refl) c.loop-op.invariant

pub loop-op-preserved : goal.loop-op-preserved
loop-op-preserved c =
    total_next (reads_it c.args.queue) _ _ c.op-item.result c.loop-op-test.true c.op-item.is
    (nat_zero (λ lt. not_false (c.if-contains.ensures.1 lt))) c.loop-op.invariant

pub returns : goal.returns
returns c = found_none (reads_it c.args.queue) _ _ _ c.loop-op-test.false c.as_slice-op-items.ensures c.loop-op.invariant
