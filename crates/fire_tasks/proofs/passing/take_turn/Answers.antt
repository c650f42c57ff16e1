use Rattle.std.proofs.Common.{◌≡◌, true}
use Rattle.river_plan.specs.Forms.{plan_form}
use Rattle.fire_tasks.specs.Adds.{added, logs_at}
use Rattle.fire_tasks.proofs.PassLemmas.{task_may}
use Rattle.fire_tasks.proofs.TurnLemmas.{turned_sent, turned_none, turned_took, turned_busy, looked_at, sits_none}
use Rattle.fire_tasks.proofs.passing.take_turn.Goals as goal

pub send_all-requires-clause-may : goal.send_all-requires-clause-may
send_all-requires-clause-may g c =
    let v = c.args.seat.now.view in
    let t = c.args.task.now in
    task_may (plan_form c.args.plan.now) (added (plan_form c.args.plan.now) (logs_at v t.op) t.op) t c.requires.task

pub returns-then-not-is_idle-clause-turned : goal.returns-then-not-is_idle-clause-turned
returns-then-not-is_idle-clause-turned g c =
    turned_sent (plan_form c.args.plan.now) c.args.seat.now.view c.args.task.now c.send_all.new.outs c.send_all.new.pending c.in_ok-sent.sent
    c.requires.task c.requires.seat.rests
    c.in_ok-sent.ensures.sent c.in_ok-sent.ensures.stuck
    (λ idle. let t : c.is_idle.result ≡ true = c.is_idle.ensures.1 idle in let f = c.if-not-is_idle.true in absurd (cc (t, f)))

pub take_locked-requires-clause-task : goal.take_locked-requires-clause-task
take_locked-requires-clause-task g c =
    looked_at (plan_form c.args.plan.now) c.args.seat.now.view c.args.task.now c.send_all.new.outs c.send_all.new.pending c.in_ok-sent.sent
    c.first_ready.new.ins c.requires.task
    c.in_ok-sent.ensures.sent c.first_ready.ensures.same c.first_ready.ensures.received

pub returns-then-branch-clause-turned : goal.returns-then-branch-clause-turned
returns-then-branch-clause-turned g c =
    turned_took (plan_form c.args.plan.now) c.args.seat.now.view c.take_locked.new.seat.view c.args.task.now c.take_locked.new.task
    c.send_all.new.outs c.send_all.new.pending c.in_ok-sent.sent
    c.in_ok-take_locked-in-Some.field-0 c.first_ready.new.ins c.in_ok-sent.ensures.sent c.first_ready.ensures.same c.first_ready.ensures.received
    c.in_ok-take_locked-in-Some.ensures.tried c.if-branch.true

pub returns-else-branch-clause-turned : goal.returns-else-branch-clause-turned
returns-else-branch-clause-turned g c =
    turned_busy (plan_form c.args.plan.now) c.args.seat.now.view c.take_locked.new.seat.view c.args.task.now c.take_locked.new.task
    c.send_all.new.outs c.send_all.new.pending c.in_ok-sent.sent
    c.in_ok-take_locked-in-Some.field-0 c.first_ready.new.ins c.in_ok-sent.ensures.sent c.first_ready.ensures.same c.first_ready.ensures.received
    c.in_ok-take_locked-in-Some.ensures.tried c.if-branch.false

pub returns-in-None-clause-turned : goal.returns-in-None-clause-turned
returns-in-None-clause-turned g c =
    turned_none (plan_form c.args.plan.now) c.args.seat.now.view c.args.task.now c.send_all.new.outs c.send_all.new.pending c.in_ok-sent.sent
    c.first_ready.new.ins c.requires.task c.requires.seat.rests
    c.in_ok-sent.ensures.sent c.in_ok-sent.ensures.stuck c.first_ready.ensures.same c.first_ready.ensures.received c.in-None.ensures.none

pub returns-then-not-is_idle-clause-sits : goal.returns-then-not-is_idle-clause-sits
returns-then-not-is_idle-clause-sits g c = sits_none c.args.seat.now.view c.requires.seat.rests

pub returns-in-None-clause-sits : goal.returns-in-None-clause-sits
returns-in-None-clause-sits g c = sits_none c.args.seat.now.view c.requires.seat.rests
