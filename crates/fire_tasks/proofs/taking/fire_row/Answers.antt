use Rattle.std.proofs.Common.{rules, ◌≡◌, length, sym, ap, ◌∙◌}
use Rattle.std.specs.Prelude.{Some}
use Rattle.river_plan.specs.Forms.{plan_form}
use Rattle.river_rings.specs.Rows.{row_item}
use Rattle.river_base.specs.WideRows.{rows_type}
use Rattle.fire_tasks.proofs.TaskLemmas.{can_take, blank_op, fits_row, took_fired}
use Rattle.fire_tasks.proofs.taking.fire_row.Goals as goal

pub fire_values-requires-clause-can : goal.fire_values-requires-clause-can
fire_values-requires-clause-can g c =
    let t = c.args.task.now in
    let row = c.pop_row_at.new.row in
    let l : length row ≡ length c.args.row.now = search rules in
    can_take (plan_form c.args.plan.now) c.requires.valid t c.requires.task.0 c.requires.task.1 c.args.port (row_item row)
    (fits_row t.kinds c.args.port row (c.requires.kind ∙ ap (λ n. Some (rows_type n)) (sym l)))

pub fire_values-requires-clause-blank : goal.fire_values-requires-clause-blank
fire_values-requires-clause-blank g c = blank_op (plan_form c.args.plan.now) c.requires.valid c.args.task.now c.requires.task.0 c.requires.task.1

pub returns-clause-fired : goal.returns-clause-fired
returns-clause-fired g c = λ yes.
    let t = c.args.task.now in
    let row = c.pop_row_at.new.row in
    let l : length row ≡ length c.args.row.now = search rules in
    took_fired (plan_form c.args.plan.now) c.requires.valid t c.requires.fine c.pop_row_at.new.ins c.args.port (row_item row)
    c.fire_values.new.states c.fire_values.new.out _ _ _ c.next_count-task.result
    c.pop_row_at.ensures.same (c.pop_row_at.ensures.received c.if-not-pop_row_at.false) c.requires.port
    (fits_row t.kinds c.args.port row (c.requires.kind ∙ ap (λ n. Some (rows_type n)) (sym l))) c.requires.idle
    c.in_ok-fire_values.ensures c.swap.ensures.x_after c.swap.ensures.y_after c.next_count-task.ensures
