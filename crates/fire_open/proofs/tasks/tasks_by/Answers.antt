use Rattle.std.proofs.Common.{◌≡◌, arith, ◌∙◌, subst}
use Rattle.fire_open.specs.First.{AreFirstTasks}
use Rattle.fire_open.proofs.TakenLemmas.{so_far_first, so_far_more}
use Rattle.fire_open.proofs.tasks.tasks_by.Goals as goal

pub loop-op-init : goal.loop-op-init
loop-op-init c = so_far_first c.args.plan.now c.args.queues.now c.args.kinds.now c.new-tasks.result c.new-tasks.ensures

pub task_of-requires-clause-queues : goal.task_of-requires-clause-queues
task_of-requires-clause-queues c = c.loop-op.invariant.left.many ∙ c.requires.queues

pub loop-op-preserved : goal.loop-op-preserved
loop-op-preserved c =
    so_far_more c.args.plan.now c.args.queues.now c.args.kinds.now c.loop-op.op c.loop-op.tasks c.push.new.self c.loop-op.queues c.task_of.new.queues
    c.in_ok-task.task
    c.requires.valid c.loop-op.invariant c.in_ok-task.ensures.task c.in_ok-task.ensures.left c.in_ok-push.ensures.ok

pub returns : goal.returns
returns c =
    let e : c.loop-op.op ≡ c.args.count = omega arith in
    subst (λ n. AreFirstTasks c.args.plan.now c.args.queues.now c.args.kinds.now n c.loop-op.tasks) e c.loop-op.invariant.tasks
