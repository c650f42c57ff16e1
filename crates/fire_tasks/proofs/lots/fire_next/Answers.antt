use Rattle.std.proofs.Common.{length, ap, ◌∙◌}
use Rattle.river_plan.specs.Forms.{plan_form}
use Rattle.river_base.specs.Places.{list_at}
use Rattle.river_base.proofs.PlaceLemmas.{length-each_grew}
use Rattle.river_rings.specs.Rows.{row_item}
use Rattle.fire_tasks.proofs.LotLemmas.{as_many_lines, as_many_lists, blank_more, can_more, fired_more, grew_at}
use Rattle.fire_tasks.proofs.TaskLemmas.{fits_row}
use Rattle.fire_tasks.proofs.lots.fire_next.Goals as goal

pub fire_values-requires-clause-can : goal.fire_values-requires-clause-can
fire_values-requires-clause-can g c =
    let f = c.requires.firing in
    let row = c.args.row.now in
    can_more (plan_form c.args.plan.now) c.requires.valid f.t f.adds f.task c.args.port f.items c.args.task.now c.args.owed.now f.has (row_item row)
    (fits_row c.args.task.now.kinds c.args.port row c.requires.kind)

pub fire_values-requires-clause-blank : goal.fire_values-requires-clause-blank
fire_values-requires-clause-blank g c =
    let f = c.requires.firing in
    blank_more (plan_form c.args.plan.now) c.requires.valid f.t f.adds f.task c.args.port f.items c.args.task.now c.args.owed.now f.has

pub add_lines-requires : goal.add_lines-requires
add_lines-requires g c =
    let f = c.requires.firing in
    let row = c.args.row.now in
    as_many_lines (plan_form c.args.plan.now) c.requires.valid f.t f.adds f.task c.args.port f.items c.args.task.now c.args.owed.now f.has (row_item row)
    (fits_row c.args.task.now.kinds c.args.port row c.requires.kind) c.fire_values.new.states c.fire_values.new.out c.in_ok-fire_values.ensures

pub add_lists-requires : goal.add_lists-requires
add_lists-requires g c =
    let f = c.requires.firing in
    let row = c.args.row.now in
    as_many_lists (plan_form c.args.plan.now) c.requires.valid f.t f.adds f.task c.args.port f.items c.args.task.now c.args.owed.now f.has (row_item row)
    (fits_row c.args.task.now.kinds c.args.port row c.requires.kind) c.fire_values.new.states c.fire_values.new.out c.in_ok-fire_values.ensures

pub returns-clause-fired : goal.returns-clause-fired
returns-clause-fired g c = λ t adds k xs h.
    let p = plan_form c.args.plan.now in
    let v = c.requires.valid in
    let u = c.args.task.now in
    let port = c.args.port in
    let row = c.args.row.now in
    let owed = c.args.owed.now in
    let x = row_item row in
    let i = fits_row u.kinds port row c.requires.kind in
    let st = c.fire_values.new.states in
    let out = c.fire_values.new.out in
    let f = c.in_ok-fire_values.ensures in
    let lines = as_many_lines p v t adds k port xs u owed h x i st out f in
    let lists = as_many_lists p v t adds k port xs u owed h x i st out f in
    fired_more p v t adds k port xs u owed h x i st out f c.add_lines.new.to
    (λ j. ap (λ ls. list_at ls j) c.in_ok-add_lines.ensures.grew ∙ grew_at u.pending out.outs lines j)
    c.add_lists.new.to
    (λ j. ap (λ ls. list_at ls j) c.in_ok-add_lists.ensures.grew ∙ grew_at owed out.adds lists j)
    _ _ c.next_count-task.result
    (ap length c.in_ok-add_lines.ensures.grew ∙ length-each_grew u.pending (list_at out.outs))
    (ap length c.in_ok-add_lists.ensures.grew ∙ length-each_grew owed (list_at out.adds))
    c.in_ok-add_lines.ensures.left c.in_ok-add_lists.ensures.left c.next_count-task.ensures
