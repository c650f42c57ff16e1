use Rattle.std.proofs.Common.{sym, subst}
use Rattle.std.specs.List.Sorted.{IsStrictlyIncreasing}
use Rattle.river_base.specs.Places.{list_at}
use Rattle.river_plan.specs.Forms.{plan_form}
use Rattle.fire_tasks.specs.Turns.{AreRowsFor, HasCells}
use Rattle.fire_tasks.proofs.AddLemmas.{can_add, none_gained}
use Rattle.fire_tasks.proofs.TaskLemmas.{taken_at}
use Rattle.fire_tasks.proofs.taking.take_item.Goals as goal

pub returns-in_err-fire_at-clause-gained : goal.returns-in_err-fire_at-clause-gained
returns-in_err-fire_at-clause-gained g c = none_gained c.args.task.now.op c.args.pile.now.items

pub add_rows-requires-clause-ascend : goal.add_rows-requires-clause-ascend
add_rows-requires-clause-ascend g c =
    subst IsStrictlyIncreasing (sym c.requires.pile.named) c.requires.task.1.homes.ascend

pub add_rows-requires-clause-many : goal.add_rows-requires-clause-many
add_rows-requires-clause-many g c = (c.in_ok-fire_at.ensures.owes c.requires.task.0 c.requires.task.1).many

pub add_rows-requires-clause-can : goal.add_rows-requires-clause-can
add_rows-requires-clause-can g c =
    let f = c.in_ok-fire_at.ensures in
    let t = c.args.task.now in
    let rows = list_at c.fire_at.new.task.out.adds in
    subst (λ hs. HasCells hs rows c.args.pile.now.items) (sym f.homes.0)
    (can_add (plan_form c.args.plan.now) t.op t.tables t.classes rows c.args.pile.now.items c.requires.task.1.homes
    (subst (λ hs. AreRowsFor (plan_form c.args.plan.now) hs rows) f.homes.0 (f.owes c.requires.task.0 c.requires.task.1).rows) c.requires.pile)

pub returns-clause-taken : goal.returns-clause-taken
returns-clause-taken g c =
    taken_at (plan_form c.args.plan.now) c.args.task.now c.fire_at.new.task c.args.pile.now.items c.add_rows.new.pile.items c.add_rows.new.adds
    c.in_ok-fire_at.ensures
    c.in_ok-add_rows.ensures.logged c.requires.pile.named c.in_ok-add_rows.ensures.blank
