use Rattle.std.proofs.Common.{◌≡◌, ◌+◌, ℕ, List, arith, sym, ap, ◌∙◌, subst}
use Rattle.std.specs.Prelude.{None}
use Rattle.river_plan.specs.Forms.{plan_form}
use Rattle.fire_tasks.specs.declared.task.Task.{Task}
use Rattle.fire_tasks.specs.Adds.{added, logs_of}
use Rattle.fire_tasks.specs.Ports.{InEnd, IsIdle, out_ends, received_count, sent_count}
use Rattle.fire_tasks.specs.Tasks.{IsTask, TaskEnds, ends_of, moves}
use Rattle.fire_tasks.proofs.PassLemmas.{looked_task}
use Rattle.fire_tasks.proofs.PortLemmas.{count_same}
use Rattle.fire_open.specs.TaskCores.{task_core}
use Rattle.fire_run.specs.Cells.{HaveAdded}
use Rattle.fire_run.specs.OneMove.{Takes}
use Rattle.fire_run.proofs.OneMoves.{takes_looked}
use Rattle.fire_run.proofs.MoveLemmas.{none_added, still_ins, one_true, one_false}
use Rattle.fire_run.proofs.one.take_next.Goals as goal

pub take_for-requires-clause-task : goal.take_for-requires-clause-task
take_for-requires-clause-task g c =
    let p = plan_form c.args.plan.now in
    let t = c.args.task.now in
    subst (λ (x : Task). IsTask p (added p (logs_of c.args.cells.now) x.op) x) (sym c.first_ready.ensures.rest)
    (looked_task p (added p (logs_of c.args.cells.now) t.op) t c.first_ready.new.self.ins c.requires.task c.first_ready.ensures.same c.first_ready.ensures.received)

pub take_for-requires-clause-idle : goal.take_for-requires-clause-idle
take_for-requires-clause-idle g c = subst (λ (x : Task). IsIdle x.pending) (sym c.first_ready.ensures.rest) c.requires.idle

pub take_for-requires-clause-fine : goal.take_for-requires-clause-fine
take_for-requires-clause-fine g c = subst (λ (x : Task). x.bad ≡ None) (sym c.first_ready.ensures.rest) c.requires.fine

pub returns-in_ok-take_for-in-Some-clause-task : goal.returns-in_ok-take_for-in-Some-clause-task
returns-in_ok-take_for-in-Some-clause-task g c =
    let p = plan_form c.args.plan.now in
    let same : c.first_ready.new.self.op ≡ c.args.task.now.op = ap (λ (x : Task). x.op) c.first_ready.ensures.rest in
    subst (λ (o : ℕ). IsTask p (added p (logs_of c.take_for.new.cells) o) c.take_for.new.task) same c.in_ok-take_for-in-Some.ensures.task

pub returns-in_ok-take_for-in-Some-clause-same : goal.returns-in_ok-take_for-in-Some-clause-same
returns-in_ok-take_for-in-Some-clause-same g c =
    let t = c.args.task.now in
    let looked : ends_of c.first_ready.new.self ≡ ends_of (record t { ins = c.first_ready.new.self.ins }) = ap ends_of c.first_ready.ensures.rest in
    c.in_ok-take_for-in-Some.ensures.same ∙ looked
    ∙ ap (λ (i : List InEnd). let e : TaskEnds = record { op = t.op; ins = i; outs = out_ends t.outs } in e) c.first_ready.ensures.same

pub returns-in_ok-take_for-in-Some-clause-moved : goal.returns-in_ok-take_for-in-Some-clause-moved
returns-in_ok-take_for-in-Some-clause-moved g c =
    let t = c.args.task.now in
    let u = c.first_ready.new.self in
    let m = c.in_ok-take_for-in-Some.ensures.one in
    let r = count_same u.ins t.ins c.first_ready.ensures.received in
    let is : moves u ≡ received_count u.ins + sent_count t.outs = ap moves c.first_ready.ensures.rest in
    one_true (moves t) (moves c.take_for.new.task) (omega (arith, m, r, is))

pub returns-in_ok-take_for-in-Some-clause-cells : goal.returns-in_ok-take_for-in-Some-clause-cells
returns-in_ok-take_for-in-Some-clause-cells g c =
    let same : c.first_ready.new.self.op ≡ c.args.task.now.op = ap (λ (x : Task). x.op) c.first_ready.ensures.rest in
    subst (λ (o : ℕ). HaveAdded (plan_form c.args.plan.now) o c.args.cells.now c.take_for.new.cells) same c.in_ok-take_for-in-Some.ensures.cells

pub returns-in-None-clause-task : goal.returns-in-None-clause-task
returns-in-None-clause-task g c =
    let p = plan_form c.args.plan.now in
    let t = c.args.task.now in
    subst (IsTask p (added p (logs_of c.args.cells.now) t.op)) (sym c.first_ready.ensures.rest)
    (looked_task p (added p (logs_of c.args.cells.now) t.op) t c.first_ready.new.self.ins c.requires.task c.first_ready.ensures.same c.first_ready.ensures.received)

pub returns-in-None-clause-same : goal.returns-in-None-clause-same
returns-in-None-clause-same g c =
    let t = c.args.task.now in
    let looked : ends_of c.first_ready.new.self ≡ ends_of (record t { ins = c.first_ready.new.self.ins }) = ap ends_of c.first_ready.ensures.rest in
    looked ∙ ap (λ (i : List InEnd). let e : TaskEnds = record { op = t.op; ins = i; outs = out_ends t.outs } in e) c.first_ready.ensures.same

pub returns-in-None-clause-moved : goal.returns-in-None-clause-moved
returns-in-None-clause-moved g c =
    let t = c.args.task.now in
    let u = c.first_ready.new.self in
    let r = count_same u.ins t.ins c.first_ready.ensures.received in
    let is : moves u ≡ received_count u.ins + sent_count t.outs = ap moves c.first_ready.ensures.rest in
    one_false (moves t) (moves u) (omega (arith, r, is))

pub returns-in-None-clause-cells : goal.returns-in-None-clause-cells
returns-in-None-clause-cells g c = none_added (plan_form c.args.plan.now) c.args.task.now.op c.args.cells.now

pub returns-in-None-clause-still : goal.returns-in-None-clause-still
returns-in-None-clause-still g c = λ f.
    let t = c.args.task.now in
    let u = c.first_ready.new.self in
    let looked : task_core u ≡ task_core (record t { ins = u.ins }) = ap task_core c.first_ready.ensures.rest in
    looked ∙ still_ins t u.ins c.first_ready.ensures.same c.first_ready.ensures.received

pub returns-in-None-clause-done : goal.returns-in-None-clause-done
returns-in-None-clause-done g c = λ f. record { idle = c.requires.idle; received = c.in-None.ensures.none_before }

pub returns-in_ok-take_for-in-Some-clause-takes : goal.returns-in_ok-take_for-in-Some-clause-takes
returns-in_ok-take_for-in-Some-clause-takes g c =
    let p = plan_form c.args.plan.now in
    λ m. takes_looked p c.args.task.now c.take_for.new.task c.first_ready.new.self.ins c.args.cells.now c.take_for.new.cells
    c.first_ready.ensures.same c.first_ready.ensures.received
    (subst (λ (x : Task). Takes p x c.take_for.new.task c.args.cells.now c.take_for.new.cells) c.first_ready.ensures.rest
    c.in_ok-take_for-in-Some.ensures.takes)
