use Rattle.std.proofs.Common.{rules, [], drop, ◌<◌, take, length, sym, ap, ◌∙◌, subst, arith}
use Rattle.std.specs.Prelude.{replicate}
use Rattle.std.proofs.lemmas.List.{length-take-le, take-append-le}
use Rattle.fire_tasks.specs.Lots.{HasFiredRows}
use Rattle.std.specs.List.Sorted.{IsStrictlyIncreasing}
use Rattle.river_base.specs.Places.{list_at}
use Rattle.river_plan.specs.Forms.{plan_form}
use Rattle.river_rings.specs.Rows.{rows_in}
use Rattle.fire_tasks.specs.Ports.{in_ends, received_in}
use Rattle.fire_tasks.specs.Turns.{HasCells}
use Rattle.fire_tasks.proofs.AddLemmas.{can_add, none_gained}
use Rattle.fire_tasks.proofs.LotLemmas.{fired_none, rows_any, taken_lot}
use Rattle.fire_tasks.proofs.lots.take_rows.Goals as goal

pub returns-then-count-eq0-clause-gained : goal.returns-then-count-eq0-clause-gained
returns-then-count-eq0-clause-gained g c = none_gained c.args.task.now.op c.args.pile.now.items

pub returns-in_err-owed-clause-gained : goal.returns-in_err-owed-clause-gained
returns-in_err-owed-clause-gained g c = none_gained c.args.task.now.op c.args.pile.now.items

pub returns-in_err-fire_rows-clause-gained : goal.returns-in_err-fire_rows-clause-gained
returns-in_err-fire_rows-clause-gained g c = none_gained c.args.task.now.op c.args.pile.now.items

pub fire_rows-requires-clause-firing : goal.fire_rows-requires-clause-firing
fire_rows-requires-clause-firing g c =
    let t = c.args.task.now in
    record {
      t = t;
      adds = c.requires.task.0;
      task = c.requires.task.1;
      items = [];
      has = fired_none (plan_form c.args.plan.now) c.requires.valid t c.requires.task.0 c.requires.task.1 c.args.port c.pop_rows_at-count.new.ins
          c.in_ok-owed.owed c.requires.fine c.requires.port
          (c.in_ok-owed.ensures ∙ ap (λ m. replicate m []) c.len.ensures);
    }

pub add_rows-requires-clause-ascend : goal.add_rows-requires-clause-ascend
add_rows-requires-clause-ascend g c =
    subst IsStrictlyIncreasing (sym c.requires.pile.named) c.requires.task.1.homes.ascend

pub add_rows-requires-clause-many : goal.add_rows-requires-clause-many
add_rows-requires-clause-many g c =
    let t = c.args.task.now in
    let h = c.in_ok-fire_rows.ensures.fired t c.requires.task.0 c.requires.task.1 []
    (fired_none (plan_form c.args.plan.now) c.requires.valid t c.requires.task.0 c.requires.task.1 c.args.port c.pop_rows_at-count.new.ins
    c.in_ok-owed.owed c.requires.fine c.requires.port
    (c.in_ok-owed.ensures ∙ ap (λ m. replicate m []) c.len.ensures)) in
    h.many ∙ ap length (sym h.tables)

pub add_rows-requires-clause-can : goal.add_rows-requires-clause-can
add_rows-requires-clause-can g c =
    let t = c.args.task.now in
    let h = c.in_ok-fire_rows.ensures.fired t c.requires.task.0 c.requires.task.1 []
    (fired_none (plan_form c.args.plan.now) c.requires.valid t c.requires.task.0 c.requires.task.1 c.args.port c.pop_rows_at-count.new.ins
    c.in_ok-owed.owed c.requires.fine c.requires.port
    (c.in_ok-owed.ensures ∙ ap (λ m. replicate m []) c.len.ensures)) in
    let rows = list_at c.fire_rows.new.owed in
    subst (λ hs. HasCells hs rows c.args.pile.now.items) (sym h.tables)
    (can_add (plan_form c.args.plan.now) t.op t.tables t.classes rows c.args.pile.now.items c.requires.task.1.homes h.rows c.requires.pile)

pub returns-clause-taken : goal.returns-clause-taken
returns-clause-taken g c = λ y.
    let t = c.args.task.now in
    let p = plan_form c.args.plan.now in
    let n = c.pop_rows_at-count.result in
    let values = take n c.pop_rows_at-count.new.rows in
    let within = c.pop_rows_at-count.ensures.within.0 in
    let some : 0 < length values = (let l = length-take-le n c.pop_rows_at-count.new.rows within in let ne : 0 < n = search rules in omega (arith, l, ne)) in
    taken_lot p t c.args.port (rows_in c.args.width values) c.fire_rows.new.task c.fire_rows.new.owed c.args.pile.now.items c.add_rows.new.pile.items
    (λ adds k. subst (λ vs. HasFiredRows p t adds k c.args.port (rows_in c.args.width vs) c.fire_rows.new.task c.fire_rows.new.owed)
    (take-append-le n c.pop_rows_at-count.new.rows (drop c.values_of-most.result c.args.room.now) within)
    (c.in_ok-fire_rows.ensures.fired t adds k []
    (fired_none p c.requires.valid t adds k c.args.port c.pop_rows_at-count.new.ins c.in_ok-owed.owed c.requires.fine c.requires.port
    (c.in_ok-owed.ensures ∙ ap (λ m. replicate m []) c.len.ensures))))
    c.requires.task
    (ap in_ends c.in_ok-fire_rows.ensures.ins ∙ c.pop_rows_at-count.ensures.same)
    (ap received_in c.in_ok-fire_rows.ensures.ins ∙ c.pop_rows_at-count.ensures.received)
    (rows_any c.args.width values c.pop_rows_at-count.ensures.whole some)
    c.in_ok-add_rows.ensures.logged c.requires.pile.named
