use Rattle.std.proofs.Common.{arith, ◌-◌, refl, subst, sym, ◌∙◌}
use Rattle.river_plan.specs.Forms.{plan_form}
use Rattle.fire_tasks.specs.Adds.{added, logs_of}
use Rattle.fire_tasks.specs.Tasks.{IsTask, all_moves}
use Rattle.fire_tasks.specs.Layout.{AreTasks}
use Rattle.fire_open.specs.Homes.{AreClassCells}
use Rattle.fire_run.specs.Cells.{HaveAdded, HaveMoved}
use Rattle.fire_run.specs.OneMove.{TaskMoves}
use Rattle.fire_run.proofs.OneMoves.{last_moved}
use Rattle.fire_run.proofs.MoveLemmas.{walked_first, turn_of, walked_next, walked_all, moved_one, one_false, none_moved}
use Rattle.fire_open.proofs.StillLemmas.{still_tasks, still_ends, still_all_moves}
use Rattle.fire_run.proofs.one.move_last.Goals as goal

pub loop-back-init : goal.loop-back-init
loop-back-init g c = record { walked = walked_first c.args.tasks.now; stay = refl }

pub move_one-requires-clause-task : goal.move_one-requires-clause-task
move_one-requires-clause-task g c =
    let t = c.at_mut.result.now in
    subst (λ cells. IsTask (plan_form c.args.plan.now) (added (plan_form c.args.plan.now) (logs_of cells) t.op) t) (sym c.loop-back.invariant.stay)
    (turn_of (plan_form c.args.plan.now) (added (plan_form c.args.plan.now) (logs_of c.args.cells.now)) c.args.tasks.now c.loop-back.tasks c.loop-back.back
    (c.len-count.result - 1 - c.loop-back.back) t c.requires.tasks c.requires.room c.loop-back.invariant.walked (omega arith) (c.at_mut.ensures.value t)).task

pub move_one-requires-clause-cells : goal.move_one-requires-clause-cells
move_one-requires-clause-cells g c = subst (AreClassCells (plan_form c.args.plan.now)) (sym c.loop-back.invariant.stay) c.requires.cells

pub move_one-requires-clause-fine : goal.move_one-requires-clause-fine
move_one-requires-clause-fine g c =
    let t = c.at_mut.result.now in
    (turn_of (plan_form c.args.plan.now) (added (plan_form c.args.plan.now) (logs_of c.args.cells.now)) c.args.tasks.now c.loop-back.tasks c.loop-back.back
    (c.len-count.result - 1 - c.loop-back.back) t c.requires.tasks c.requires.room c.loop-back.invariant.walked (omega arith) (c.at_mut.ensures.value t)).fine

pub move_one-requires-clause-few : goal.move_one-requires-clause-few
move_one-requires-clause-few g c =
    let t = c.at_mut.result.now in
    (turn_of (plan_form c.args.plan.now) (added (plan_form c.args.plan.now) (logs_of c.args.cells.now)) c.args.tasks.now c.loop-back.tasks c.loop-back.back
    (c.len-count.result - 1 - c.loop-back.back) t c.requires.tasks c.requires.room c.loop-back.invariant.walked (omega arith) (c.at_mut.ensures.value t)).few

pub move_one-requires-clause-room : goal.move_one-requires-clause-room
move_one-requires-clause-room g c =
    let t = c.at_mut.result.now in
    (turn_of (plan_form c.args.plan.now) (added (plan_form c.args.plan.now) (logs_of c.args.cells.now)) c.args.tasks.now c.loop-back.tasks c.loop-back.back
    (c.len-count.result - 1 - c.loop-back.back) t c.requires.tasks c.requires.room c.loop-back.invariant.walked (omega arith) (c.at_mut.ensures.value t)).room

pub returns-then-branch-clause-tasks : goal.returns-then-branch-clause-tasks
returns-then-branch-clause-tasks g c =
    let t = c.at_mut.result.now in
    let e = c.in_ok-move_one.ensures in
    (moved_one (plan_form c.args.plan.now) c.args.cells.now c.move_one.new.cells c.args.tasks.now c.loop-back.tasks c.loop-back.back
    (c.len-count.result - 1 - c.loop-back.back) t c.move_one.new.task c.in_ok-move_one.field-0 c.requires.tasks c.requires.single c.loop-back.invariant.walked
    (omega arith) (c.at_mut.ensures.value t) e.task e.same
    (subst (λ cells. HaveAdded (plan_form c.args.plan.now) t.op cells c.move_one.new.cells) c.loop-back.invariant.stay e.cells) e.moved c.if-branch.true).tasks

pub returns-then-branch-clause-same : goal.returns-then-branch-clause-same
returns-then-branch-clause-same g c =
    let t = c.at_mut.result.now in
    let e = c.in_ok-move_one.ensures in
    (moved_one (plan_form c.args.plan.now) c.args.cells.now c.move_one.new.cells c.args.tasks.now c.loop-back.tasks c.loop-back.back
    (c.len-count.result - 1 - c.loop-back.back) t c.move_one.new.task c.in_ok-move_one.field-0 c.requires.tasks c.requires.single c.loop-back.invariant.walked
    (omega arith) (c.at_mut.ensures.value t) e.task e.same
    (subst (λ cells. HaveAdded (plan_form c.args.plan.now) t.op cells c.move_one.new.cells) c.loop-back.invariant.stay e.cells) e.moved c.if-branch.true).same

pub returns-then-branch-clause-moved : goal.returns-then-branch-clause-moved
returns-then-branch-clause-moved g c =
    let t = c.at_mut.result.now in
    let e = c.in_ok-move_one.ensures in
    (moved_one (plan_form c.args.plan.now) c.args.cells.now c.move_one.new.cells c.args.tasks.now c.loop-back.tasks c.loop-back.back
    (c.len-count.result - 1 - c.loop-back.back) t c.move_one.new.task c.in_ok-move_one.field-0 c.requires.tasks c.requires.single c.loop-back.invariant.walked
    (omega arith) (c.at_mut.ensures.value t) e.task e.same
    (subst (λ cells. HaveAdded (plan_form c.args.plan.now) t.op cells c.move_one.new.cells) c.loop-back.invariant.stay e.cells) e.moved c.if-branch.true).number

pub returns-then-branch-clause-cells : goal.returns-then-branch-clause-cells
returns-then-branch-clause-cells g c =
    let t = c.at_mut.result.now in
    let e = c.in_ok-move_one.ensures in
    (moved_one (plan_form c.args.plan.now) c.args.cells.now c.move_one.new.cells c.args.tasks.now c.loop-back.tasks c.loop-back.back
    (c.len-count.result - 1 - c.loop-back.back) t c.move_one.new.task c.in_ok-move_one.field-0 c.requires.tasks c.requires.single c.loop-back.invariant.walked
    (omega arith) (c.at_mut.ensures.value t) e.task e.same
    (subst (λ cells. HaveAdded (plan_form c.args.plan.now) t.op cells c.move_one.new.cells) c.loop-back.invariant.stay e.cells) e.moved c.if-branch.true).came

pub loop-back-preserved : goal.loop-back-preserved
loop-back-preserved g c =
    let t = c.at_mut.result.now in
    let e = c.in_ok-move_one.ensures in
    record {
      walked = walked_next c.args.tasks.now c.loop-back.tasks c.loop-back.back
          (c.len-count.result - 1 - c.loop-back.back) t c.move_one.new.task c.loop-back.invariant.walked (omega arith)
          (c.at_mut.ensures.value t) (e.still c.if-branch.false) (e.done c.if-branch.false);
      stay = e.stay c.if-branch.false ∙ c.loop-back.invariant.stay;
    }

pub returns-clause-tasks : goal.returns-clause-tasks
returns-clause-tasks g c =
    subst (λ cells. AreTasks (plan_form c.args.plan.now) (added (plan_form c.args.plan.now) (logs_of cells)) c.loop-back.tasks) (sym c.loop-back.invariant.stay)
    (still_tasks (plan_form c.args.plan.now)
    (added (plan_form c.args.plan.now) (logs_of c.args.cells.now)) c.args.tasks.now c.loop-back.tasks c.loop-back.invariant.walked.same c.requires.tasks)

pub returns-clause-same : goal.returns-clause-same
returns-clause-same g c = still_ends c.args.tasks.now c.loop-back.tasks c.loop-back.invariant.walked.same

pub returns-clause-moved : goal.returns-clause-moved
returns-clause-moved g c =
    one_false (all_moves c.args.tasks.now) (all_moves c.loop-back.tasks) (still_all_moves c.args.tasks.now c.loop-back.tasks c.loop-back.invariant.walked.same)

pub returns-clause-cells : goal.returns-clause-cells
returns-clause-cells g c =
    subst (HaveMoved (plan_form c.args.plan.now) c.args.cells.now) (sym c.loop-back.invariant.stay) (none_moved (plan_form c.args.plan.now) c.args.cells.now)

pub returns-clause-still : goal.returns-clause-still
returns-clause-still g c = λ f. c.loop-back.invariant.walked.same

pub returns-clause-stay : goal.returns-clause-stay
returns-clause-stay g c = λ f. c.loop-back.invariant.stay

pub returns-clause-idle : goal.returns-clause-idle
returns-clause-idle g c = λ f. walked_all c.args.tasks.now c.loop-back.tasks c.loop-back.back c.loop-back.invariant.walked (omega arith)

pub returns-then-branch-clause-step : goal.returns-then-branch-clause-step
returns-then-branch-clause-step g c =
    let p = plan_form c.args.plan.now in
    let t = c.at_mut.result.now in
    λ m. last_moved p c.args.cells.now c.move_one.new.cells c.args.tasks.now c.loop-back.tasks c.loop-back.back
    (c.len-count.result - 1 - c.loop-back.back) t c.move_one.new.task c.loop-back.invariant.walked (omega arith) (c.at_mut.ensures.value t)
    (subst (λ cells. TaskMoves p t c.move_one.new.task cells c.move_one.new.cells) c.loop-back.invariant.stay (c.in_ok-move_one.ensures.step c.if-branch.true))
