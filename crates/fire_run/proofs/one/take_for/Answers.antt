use Rattle.std.proofs.Common.{◌≡◌, ℕ, [], length, refl, sym, ap, ◌∙◌, subst}
use Rattle.std.specs.Prelude.{replicate}
use Rattle.river_base.specs.Places.{list_at}
use Rattle.river_plan.specs.Forms.{plan_form}
use Rattle.fire_tasks.specs.declared.task.Task.{Task}
use Rattle.fire_tasks.specs.Adds.{added, logs_of}
use Rattle.fire_tasks.specs.Rows.{cells_grown}
use Rattle.fire_tasks.specs.Tasks.{IsTask, TaskEnds, ends_of, moves}
use Rattle.fire_tasks.specs.Turns.{logged}
use Rattle.fire_run.specs.OneMove.{Takes}
use Rattle.fire_run.proofs.OneMoves.{takes_at}
use Rattle.fire_run.proofs.RowLemmas.{owed, task_after, added_after}
use Rattle.fire_run.proofs.one.take_for.Goals as goal

pub fire_at-requires-clause-task : goal.fire_at-requires-clause-task
fire_at-requires-clause-task g c = (added (plan_form c.args.plan.now) (logs_of c.args.cells.now) c.args.task.now.op, c.requires.task)

pub add_to_cells-requires-clause-many : goal.add_to_cells-requires-clause-many
add_to_cells-requires-clause-many g c =
    (c.in_ok-fire_at.ensures.owes (added (plan_form c.args.plan.now) (logs_of c.args.cells.now) c.args.task.now.op) c.requires.task).many

pub add_to_cells-requires-clause-can : goal.add_to_cells-requires-clause-can
add_to_cells-requires-clause-can g c =
    owed (plan_form c.args.plan.now) c.args.task.now c.fire_at.new.task c.args.cells.now c.requires.task c.in_ok-fire_at.ensures c.requires.cells

pub returns-clause-task : goal.returns-clause-task
returns-clause-task g c =
    let p = plan_form c.args.plan.now in
    let t = c.args.task.now in
    let t1 = c.fire_at.new.task in
    let cells' = c.add_to_cells.new.cells in
    let same : t1.op ≡ t.op = ap (λ (e : TaskEnds). e.op) c.in_ok-fire_at.ensures.ends in
    let came = subst (λ (o : ℕ). cells' ≡ cells_grown (logged o t1.classes t1.tables (list_at t1.out.adds)) 0 c.args.cells.now) same
    c.in_ok-add_to_cells.ensures.logged in
    subst (IsTask p (added p (logs_of cells') t.op)) (sym c.in_ok-add_to_cells.ensures.blank)
    (task_after p c.requires.valid t t1 c.args.cells.now cells' c.requires.task c.in_ok-fire_at.ensures
    (owed p t t1 c.args.cells.now c.requires.task c.in_ok-fire_at.ensures c.requires.cells) came (replicate (length t1.out.adds) []) refl)

pub returns-clause-same : goal.returns-clause-same
returns-clause-same g c = ap ends_of c.in_ok-add_to_cells.ensures.blank ∙ c.in_ok-fire_at.ensures.ends

pub returns-clause-one : goal.returns-clause-one
returns-clause-one g c = ap moves c.in_ok-add_to_cells.ensures.blank ∙ c.in_ok-fire_at.ensures.one

pub returns-clause-cells : goal.returns-clause-cells
returns-clause-cells g c =
    let p = plan_form c.args.plan.now in
    let t = c.args.task.now in
    let t1 = c.fire_at.new.task in
    let cells' = c.add_to_cells.new.cells in
    let same : t1.op ≡ t.op = ap (λ (e : TaskEnds). e.op) c.in_ok-fire_at.ensures.ends in
    let came = subst (λ (o : ℕ). cells' ≡ cells_grown (logged o t1.classes t1.tables (list_at t1.out.adds)) 0 c.args.cells.now) same
    c.in_ok-add_to_cells.ensures.logged in
    added_after p c.requires.valid t t1 c.args.cells.now cells' c.requires.task c.in_ok-fire_at.ensures
    (owed p t t1 c.args.cells.now c.requires.task c.in_ok-fire_at.ensures c.requires.cells) came

pub returns-clause-takes : goal.returns-clause-takes
returns-clause-takes g c =
    let p = plan_form c.args.plan.now in
    let t = c.args.task.now in
    let t1 = c.fire_at.new.task in
    let cells' = c.add_to_cells.new.cells in
    let same : t1.op ≡ t.op = ap (λ (e : TaskEnds). e.op) c.in_ok-fire_at.ensures.ends in
    let came = subst (λ (o : ℕ). cells' ≡ cells_grown (logged o t1.classes t1.tables (list_at t1.out.adds)) 0 c.args.cells.now) same
    c.in_ok-add_to_cells.ensures.logged in
    subst (λ (x : Task). Takes p t x c.args.cells.now cells') (sym c.in_ok-add_to_cells.ensures.blank)
    (takes_at p t t1 (replicate (length t1.out.adds) []) c.args.cells.now cells' c.requires.valid c.requires.idle c.in_ok-fire_at.ensures
    (owed p t t1 c.args.cells.now c.requires.task c.in_ok-fire_at.ensures c.requires.cells) came refl)
