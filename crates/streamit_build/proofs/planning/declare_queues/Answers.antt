use Rattle.std.proofs.Common.{◌++◌, map, take, sym, ap, ◌∙◌, append_assoc}
use Rattle.river_plan.specs.Forms.{op_form}
use Rattle.streamit_model.specs.Plan.{own_queues, values_in}
use Rattle.streamit_build.proofs.Owning.{own, own_next}
use Rattle.streamit_build.proofs.planning.declare_queues.Goals as goal

pub loop-op-preserved : goal.loop-op-preserved
loop-op-preserved c =
    let ops = c.as_slice-op-items.result.now in
    let i = c.loop-op.op-index in
    let here = map values_in (own c.op-item.result.writes) in
    c.in_ok-declare_written.ensures
    ∙ ap (λ l. l ++ here) c.loop-op.invariant
    ∙ append_assoc c.args.to.now (map values_in (own_queues (map op_form (take i ops)))) here
    ∙ ap (λ l. c.args.to.now ++ l) (sym (own_next ops i c.op-item.result c.loop-op-test.true c.op-item.is))
