use Rattle.std.proofs.Common.{rules, ◌++◌, drop, sym, ap, ◌∙◌, arith}
use Rattle.std.proofs.lemmas.List.{nil_from_length, take-append-drop}
use Rattle.river_plan.specs.Forms.{plan_form}
use Rattle.fire_tasks.proofs.LotLemmas.{to_end, to_next, to_none, whole_some}
use Rattle.fire_tasks.proofs.lots.fire_rows.Goals as goal

pub loop-rest-init : goal.loop-rest-init
loop-rest-init g c =
    to_none (plan_form c.args.plan.now) c.args.port c.args.width c.args.values.now c.args.task.now c.args.owed.now c.requires.whole c.requires.firing

pub split_at-requires : goal.split_at-requires
split_at-requires g c = whole_some c.args.width c.loop-rest.rest.now c.loop-rest.invariant.whole (search rules)

pub loop-rest-preserved : goal.loop-rest-preserved
loop-rest-preserved g c =
    let rest = c.loop-rest.rest.now in
    let row = c.split_at.result.0.now in
    let more = c.split_at.result.1.now in
    to_next (plan_form c.args.plan.now) c.args.port c.args.width c.args.values.now rest row more c.args.task.now c.loop-rest.task
    c.fire_next.new.task c.args.owed.now c.loop-rest.owed c.fire_next.new.owed c.loop-rest.invariant
    (sym (take-append-drop c.args.width rest) ∙ ap (λ l. l ++ drop c.args.width rest) (sym c.split_at.ensures.front)
    ∙ ap (λ l. row ++ l) (sym c.split_at.ensures.back))
    c.split_at.ensures.front_len c.in_ok-fire_next.ensures.ins c.in_ok-fire_next.ensures.fired

pub loop-rest-smaller : goal.loop-rest-smaller
loop-rest-smaller g c =
    let rest = c.loop-rest.rest.now in
    let some = c.loop-rest.invariant.whole.some in
    let w = whole_some c.args.width rest c.loop-rest.invariant.whole (search rules) in
    let b = c.split_at.ensures.back_len in
    omega (arith, some, w, b)

pub returns-clause-fired : goal.returns-clause-fired
returns-clause-fired g c =
    to_end (plan_form c.args.plan.now) c.args.port c.args.width c.args.values.now c.loop-rest.rest.now c.args.task.now c.loop-rest.task c.args.owed.now
    c.loop-rest.owed c.loop-rest.invariant (nil_from_length c.loop-rest.rest.now (search rules))
