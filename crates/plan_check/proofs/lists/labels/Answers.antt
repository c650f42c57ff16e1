use Rattle.std.proofs.Common.{refl}
use Rattle.plan_check.proofs.MapLoops.{op_next}
use Rattle.plan_check.proofs.lists.labels.Goals as goal

pub loop-op-preserved : goal.loop-op-preserved
loop-op-preserved c =
    op_next (λ op. op.label) c.loop-op.names c.push.new.self _ c.loop-op.op-index c.op-item.result _ c.loop-op-test.true c.op-item.is refl
    c.in_ok-push.ensures.ok c.loop-op.invariant
