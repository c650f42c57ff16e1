use Rattle.std.proofs.Common.{◌≡◌, true, subst, sym}
use Rattle.river_plan.specs.Forms.{plan_form}
use Rattle.fire_tasks.specs.Turns.{HasFiredAt}
use Rattle.fire_tasks.proofs.TaskLemmas.{can_take, blank_op, bad_fired, took_fired}
use Rattle.fire_tasks.proofs.taking.fire_item.Goals as goal

pub fire_op-requires-clause-can : goal.fire_op-requires-clause-can
fire_op-requires-clause-can g c =
    let t = c.args.task.now in
    can_take (plan_form c.args.plan.now) c.requires.valid t c.requires.task.0 c.requires.task.1 c.args.port c.in_ok-item.item
    (c.is_fit.ensures.0 c.if-not-is_fit.false)

pub fire_op-requires-clause-blank : goal.fire_op-requires-clause-blank
fire_op-requires-clause-blank g c = blank_op (plan_form c.args.plan.now) c.requires.valid c.args.task.now c.requires.task.0 c.requires.task.1

pub returns-then-not-is_fit : goal.returns-then-not-is_fit
returns-then-not-is_fit g c =
    let t = c.args.task.now in
    subst (λ b. HasFiredAt (plan_form c.args.plan.now) t (record t { ins = c.pop_at.new.ins; bad = b })) (sym c.keep_bad.ensures)
    (bad_fired (plan_form c.args.plan.now) c.requires.valid t c.requires.fine c.pop_at.new.ins c.args.port c.in_ok-item.item
    c.in_ok-item.ensures.same c.in_ok-item.ensures.received c.requires.port
    (λ h. let y : c.is_fit.result ≡ true = c.is_fit.ensures.1 h in let f = c.if-not-is_fit.true in absurd (cc (y, f))))

pub returns : goal.returns
returns g c =
    took_fired (plan_form c.args.plan.now) c.requires.valid c.args.task.now c.requires.fine c.pop_at.new.ins c.args.port c.in_ok-item.item
    c.fire_op.new.states c.fire_op.new.out _ _ _ c.next_count-task.result
    c.in_ok-item.ensures.same c.in_ok-item.ensures.received c.requires.port (c.is_fit.ensures.0 c.if-not-is_fit.false) c.requires.idle
    c.in_ok-fire_op.ensures c.swap.ensures.x_after c.swap.ensures.y_after c.next_count-task.ensures
