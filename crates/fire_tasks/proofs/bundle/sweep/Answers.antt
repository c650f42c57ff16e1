use Rattle.std.proofs.Common.{◌+◌, ◌<◌, ◌^◌, length, refl, subst, sym, ◌∙◌, set, arith}
use Rattle.river_plan.specs.Forms.{plan_form}
use Rattle.fire_tasks.specs.Tasks.{IsTaskAt}
use Rattle.fire_tasks.proofs.TurnLemmas.{sits_then}
use Rattle.fire_tasks.proofs.BundleLemmas.{HavePassed, passed_first, passed_moved, passed_still, passed_all, ends_many, seat_for}
use Rattle.fire_tasks.proofs.bundle.sweep.Goals as goal
use Rattle.fire_tasks.proofs.bundle.sweep.Goals.{then-branch, else-branch}

pub pass_task-requires-clause-task : goal.pass_task-requires-clause-task
pass_task-requires-clause-task g c =
    let e = ends_many c.args.tasks.now c.loop-place.tasks c.loop-place.invariant.passed.same in
    let t = c.at_mut.result.now in
    subst (IsTaskAt (plan_form c.args.plan.now) c.loop-place.seat.view) (sym (c.at_mut.ensures.value t))
    (c.loop-place.invariant.passed.tasks.each c.loop-place.place t (omega (arith, e)))

pub pass_task-requires-clause-seat : goal.pass_task-requires-clause-seat
pass_task-requires-clause-seat g c =
    let e = ends_many c.args.tasks.now c.loop-place.tasks c.loop-place.invariant.passed.same in
    let t = c.at_mut.result.now in
    seat_for (plan_form c.args.plan.now) c.loop-place.seat.view c.loop-place.tasks c.loop-place.place t c.loop-place.invariant.passed.tasks
    c.loop-place.invariant.passed.sits.rests
    (omega (arith, e)) (c.at_mut.ensures.value t)

pub pass_task-requires-clause-few : goal.pass_task-requires-clause-few
pass_task-requires-clause-few g c =
    let e = ends_many c.args.tasks.now c.loop-place.tasks c.loop-place.invariant.passed.same in
    let t = c.at_mut.result.now in
    subst (λ x. length x.ins < 2 ^ 32) (sym (c.at_mut.ensures.value t))
    (c.loop-place.invariant.passed.tasks.narrow.each c.loop-place.place t (omega (arith, e)))

pub loop-place-preserved : goal.loop-place-preserved
loop-place-preserved g c =
    let m = ends_many c.args.tasks.now c.loop-place.tasks c.loop-place.invariant.passed.same in
    let p = plan_form c.args.plan.now in
    let v0 = c.args.seat.now.view in
    let v = c.loop-place.seat.view in
    let w = c.pass_task.new.seat.view in
    let now = c.loop-place.tasks in
    let i = c.loop-place.place in
    let old = c.at_mut.result.now in
    let new = c.pass_task.new.task in
    let e = c.in_ok-pass_task.ensures in
    record {
      lot = c.pass_task.ensures.lot ∙ c.loop-place.invariant.lot;
      passed = elim c.if-branch.branch [
        | then-branch x ↦ subst (HavePassed p v0 w (i + 1) c.args.tasks.now (set now i new)) (sym x.moved-is)
            (passed_moved p v0 v w c.args.tasks.now now i old new c.loop-place.moved c.in_ok-pass_task.field-0 c.loop-place.invariant.passed
            (omega (arith, m)) (c.at_mut.ensures.value old) e.turned x.if-branch.true)
        | else-branch x ↦ subst (HavePassed p v0 w (i + 1) c.args.tasks.now (set now i new)) (sym x.moved-is)
            (passed_still p v0 v w c.args.tasks.now now i old new c.loop-place.moved c.in_ok-pass_task.field-0 c.loop-place.invariant.passed
            (omega (arith, m)) (c.at_mut.ensures.value old) e.turned x.if-branch.false)
      ];
    }

pub returns-clause-swept : goal.returns-clause-swept
returns-clause-swept g c =
    passed_all (plan_form c.args.plan.now) c.args.seat.now.view c.loop-place.seat.view c.loop-place.place c.args.tasks.now c.loop-place.tasks c.loop-place.moved
    c.loop-place.invariant.passed (omega arith) (omega arith)

pub loop-place-init : goal.loop-place-init
loop-place-init g c = record {
  lot = refl;
  passed =
      passed_first (plan_form c.args.plan.now) c.args.seat.now.view c.args.tasks.now c.requires.tasks c.requires.rests;
}

pub returns-in_err-pass_task-clause-lot : goal.returns-in_err-pass_task-clause-lot
returns-in_err-pass_task-clause-lot g c = c.pass_task.ensures.lot ∙ c.loop-place.invariant.lot

pub returns-in_err-pass_task-clause-sits : goal.returns-in_err-pass_task-clause-sits
returns-in_err-pass_task-clause-sits g c =
    sits_then c.args.seat.now.view c.loop-place.seat.view c.pass_task.new.seat.view c.loop-place.invariant.passed.sits c.pass_task.ensures.sits
