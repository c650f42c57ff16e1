use Rattle.std.proofs.Common.{◌∙◌}
use Rattle.river_plan.specs.Forms.{plan_form}
use Rattle.fire_tasks.proofs.TurnLemmas.{passed_on, passed_after, sits_none, sits_then}
use Rattle.fire_tasks.proofs.passing.take_turns.Goals as goal

pub returns-then-is_some-2-clause-turned : goal.returns-then-is_some-2-clause-turned
returns-then-is_some-2-clause-turned g c =
    passed_after (plan_form c.args.plan.now) c.args.seat.now.view c.take_turn.new.seat.view c.loop-turn.seat.view c.args.task.now
    c.take_turn.new.task c.loop-turn.task c.in_ok-take_turn.field-0
    c.in_ok-take_turn.ensures.turned c.if-not-branch.false c.loop-turn.invariant.passed

pub returns-then-not-branch-2-clause-turned : goal.returns-then-not-branch-2-clause-turned
returns-then-not-branch-2-clause-turned g c =
    let p = plan_form c.args.plan.now in
    let u = c.take_turn.new.seat.view in
    let t1 = c.take_turn.new.task in
    passed_after p c.args.seat.now.view u c.take_turn-in-loop-turn.new.seat.view c.args.task.now t1 c.take_turn-in-loop-turn.new.task c.in_ok-take_turn.field-0
    c.in_ok-take_turn.ensures.turned c.if-not-branch.false
    (passed_on p u c.loop-turn.seat.view c.take_turn-in-loop-turn.new.seat.view t1 c.loop-turn.task c.take_turn-in-loop-turn.new.task
    c.in_ok-take_turn-2.field-0
    c.loop-turn.invariant.passed c.in_ok-take_turn-2.ensures.turned)

pub loop-turn-preserved : goal.loop-turn-preserved
loop-turn-preserved g c = record {
  lot = c.take_turn-in-loop-turn.ensures.lot ∙ c.loop-turn.invariant.lot;
  passed = passed_on (plan_form c.args.plan.now) c.take_turn.new.seat.view c.loop-turn.seat.view c.take_turn-in-loop-turn.new.seat.view
      c.take_turn.new.task c.loop-turn.task
      c.take_turn-in-loop-turn.new.task c.in_ok-take_turn-2.field-0 c.loop-turn.invariant.passed c.in_ok-take_turn-2.ensures.turned;
}

pub returns-clause-turned : goal.returns-clause-turned
returns-clause-turned g c =
    passed_after (plan_form c.args.plan.now) c.args.seat.now.view c.take_turn.new.seat.view c.loop-turn.seat.view c.args.task.now
    c.take_turn.new.task c.loop-turn.task c.in_ok-take_turn.field-0
    c.in_ok-take_turn.ensures.turned c.if-not-branch.false c.loop-turn.invariant.passed

pub returns-then-is_some-clause-sits : goal.returns-then-is_some-clause-sits
returns-then-is_some-clause-sits g c = sits_none c.args.seat.now.view c.requires.seat.rests

pub returns-then-is_some-2-clause-sits : goal.returns-then-is_some-2-clause-sits
returns-then-is_some-2-clause-sits g c =
    let s = c.loop-turn.invariant.passed.sat in
    sits_then c.args.seat.now.view c.take_turn.new.seat.view c.loop-turn.seat.view c.take_turn.ensures.sits (record { round = s.round; rests = s.rests })

pub returns-then-is_some-2-clause-lot : goal.returns-then-is_some-2-clause-lot
returns-then-is_some-2-clause-lot g c = c.loop-turn.invariant.lot ∙ c.take_turn.ensures.lot

pub returns-then-not-branch-2-clause-sits : goal.returns-then-not-branch-2-clause-sits
returns-then-not-branch-2-clause-sits g c =
    let s = c.loop-turn.invariant.passed.sat in
    sits_then c.args.seat.now.view c.loop-turn.seat.view c.take_turn-in-loop-turn.new.seat.view
    (sits_then c.args.seat.now.view c.take_turn.new.seat.view c.loop-turn.seat.view c.take_turn.ensures.sits (record { round = s.round; rests = s.rests }))
    c.take_turn-in-loop-turn.ensures.sits

pub returns-then-not-branch-2-clause-lot : goal.returns-then-not-branch-2-clause-lot
returns-then-not-branch-2-clause-lot g c = c.take_turn-in-loop-turn.ensures.lot ∙ c.loop-turn.invariant.lot ∙ c.take_turn.ensures.lot

pub returns-in_err-take_turn-2-clause-sits : goal.returns-in_err-take_turn-2-clause-sits
returns-in_err-take_turn-2-clause-sits g c =
    let s = c.loop-turn.invariant.passed.sat in
    sits_then c.args.seat.now.view c.loop-turn.seat.view c.take_turn-in-loop-turn.new.seat.view
    (sits_then c.args.seat.now.view c.take_turn.new.seat.view c.loop-turn.seat.view c.take_turn.ensures.sits (record { round = s.round; rests = s.rests }))
    c.take_turn-in-loop-turn.ensures.sits

pub returns-in_err-take_turn-2-clause-lot : goal.returns-in_err-take_turn-2-clause-lot
returns-in_err-take_turn-2-clause-lot g c = c.take_turn-in-loop-turn.ensures.lot ∙ c.loop-turn.invariant.lot ∙ c.take_turn.ensures.lot

pub returns-clause-sits : goal.returns-clause-sits
returns-clause-sits g c =
    let s = c.loop-turn.invariant.passed.sat in
    sits_then c.args.seat.now.view c.take_turn.new.seat.view c.loop-turn.seat.view c.take_turn.ensures.sits (record { round = s.round; rests = s.rests })

pub returns-clause-lot : goal.returns-clause-lot
returns-clause-lot g c = c.loop-turn.invariant.lot ∙ c.take_turn.ensures.lot
