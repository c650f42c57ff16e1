use Rattle.river_plan.specs.Forms.{plan_form}
use Rattle.fire_tasks.proofs.PassLemmas.{flush_sent}
use Rattle.fire_tasks.proofs.TurnLemmas.{flushed}
use Rattle.fire_tasks.proofs.passing.pass_task.Goals as goal

pub returns-clause-turned : goal.returns-clause-turned
returns-clause-turned g c =
    let t = c.take_turns.new.task in
    let os = c.flush_all.new.outs in
    flushed (plan_form c.args.plan.now) c.args.seat.now.view c.take_turns.new.seat.view c.args.task.now t os c.in_ok-moved.moved
    c.in_ok-moved.ensures.turned (flush_sent t.outs t.pending os c.flush_all.ensures) c.flush_all.ensures.refused
