use Rattle.std.proofs.Common.{sym, ap, arith}
use Rattle.river_plan.specs.Names.{one_if}
use Rattle.river_plan.specs.Uses.{named_it}
use Rattle.rw_local.proofs.OpLoops.{total_next, found_at, found_none}
use Rattle.rw_local.proofs.hoisting.labelled.Goals as goal

pub returns-then-eq : goal.returns-then-eq
returns-then-eq c =
    found_at (named_it c.args.label) _ _ _ c.op-item.result c.loop-op-test.true c.op-item.is c.as_slice-op-items.ensures
    (let e = ap one_if c.if-eq.ensures in omega (arith, e)) c.loop-op.invariant

pub loop-op-preserved : goal.loop-op-preserved
loop-op-preserved c =
    total_next (named_it c.args.label) _ _ c.op-item.result c.loop-op-test.true c.op-item.is (ap one_if (sym c.if-eq.ensures)) c.loop-op.invariant

pub returns : goal.returns
returns c = found_none (named_it c.args.label) _ _ _ c.loop-op-test.false c.as_slice-op-items.ensures c.loop-op.invariant
