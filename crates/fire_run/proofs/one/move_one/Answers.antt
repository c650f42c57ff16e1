use Rattle.std.proofs.Common.{inl, inr, refl}
use Rattle.std.specs.Prelude.{IsTrue}
use Rattle.std.proofs.lemmas.Result.{IfOk-weaker}
use Rattle.river_plan.specs.Forms.{plan_form}
use Rattle.fire_tasks.specs.Adds.{added, logs_of}
use Rattle.fire_tasks.proofs.PassLemmas.{task_may}
use Rattle.fire_run.specs.OneMove.{TaskMoves, Takes}
use Rattle.fire_run.proofs.MoveLemmas.{none_added}
use Rattle.fire_run.proofs.one.move_one.Goals as goal

pub send_first-requires-clause-may : goal.send_first-requires-clause-may
send_first-requires-clause-may g c =
    let p = plan_form c.args.plan.now in
    let t = c.args.task.now in
    task_may p (added p (logs_of c.args.cells.now) t.op) t c.requires.task

pub returns-in_ok-send_first-in-Some-clause-cells : goal.returns-in_ok-send_first-in-Some-clause-cells
returns-in_ok-send_first-in-Some-clause-cells g c = none_added (plan_form c.args.plan.now) c.args.task.now.op c.args.cells.now

pub returns-in_ok-send_first-in-Some-clause-step : goal.returns-in_ok-send_first-in-Some-clause-step
returns-in_ok-send_first-in-Some-clause-step g c = λ m. inl (c.in_ok-send_first-in-Some.ensures.sends, refl)

pub returns-in-None-clause-step : goal.returns-in-None-clause-step
returns-in-None-clause-step g c =
    IfOk-weaker c.take_next.result (λ moved. IsTrue moved → Takes (plan_form c.args.plan.now) c.args.task.now c.take_next.new.task c.args.cells.now c.take_next.new.cells)
    (λ moved. IsTrue moved → TaskMoves (plan_form c.args.plan.now) c.args.task.now c.take_next.new.task c.args.cells.now c.take_next.new.cells)
    (λ moved h m. inr (h m)) c.take_next.ensures.takes
