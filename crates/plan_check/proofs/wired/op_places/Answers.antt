use Rattle.std.proofs.Common.{ap, ◌∙◌}
use Rattle.river_plan.specs.Places.{names_of, places}
use Rattle.plan_check.proofs.MapLoops.{op_next}
use Rattle.plan_check.proofs.wired.op_places.Goals as goal

pub loop-op-preserved : goal.loop-op-preserved
loop-op-preserved c =
    op_next (λ op. places c.args.set.now (names_of c.args.role op)) c.loop-op.all c.push.new.self _ c.loop-op.op-index c.op-item.result
    c.in_ok-places_in.field-0 c.loop-op-test.true c.op-item.is
    (c.in_ok-places_in.ensures ∙ ap (places c.args.set.now) c.names_of.ensures) c.in_ok-push.ensures.ok c.loop-op.invariant
