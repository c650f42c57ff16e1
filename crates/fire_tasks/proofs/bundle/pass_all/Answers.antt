use Rattle.std.proofs.Common.{◌∙◌, refl, subst}
use Rattle.river_plan.specs.Forms.{plan_form}
use Rattle.fire_tasks.specs.Bundles.{HasSwept}
use Rattle.fire_tasks.proofs.TurnLemmas.{sits_then}
use Rattle.fire_tasks.proofs.BundleLemmas.{went_none, went_on, went_after}
use Rattle.fire_tasks.proofs.bundle.pass_all.Goals as goal

pub returns-then-not-branch-clause-swept : goal.returns-then-not-branch-clause-swept
returns-then-not-branch-clause-swept g c =
    subst (HasSwept (plan_form c.args.plan.now) c.args.seat.now.view c.look_first.new.seat.view c.args.tasks.now c.look_first.new.tasks)
    c.if-not-branch.true c.in_ok-look_first.ensures.swept

pub loop-more-init : goal.loop-more-init
loop-more-init g c = record {
  lot = refl;
  went =
      went_none (plan_form c.args.plan.now) c.look_first.new.seat.view c.look_first.new.tasks c.in_ok-look_first.ensures.swept.tasks
      c.look_first.ensures.sits.rests;
}

pub loop-more-preserved : goal.loop-more-preserved
loop-more-preserved g c = record {
  lot = c.look_first-in-loop-more.ensures.lot ∙ c.loop-more.invariant.lot;
  went = went_on (plan_form c.args.plan.now) c.look_first.new.seat.view c.loop-more.seat.view c.look_first-in-loop-more.new.seat.view
      c.look_first.new.tasks c.loop-more.tasks c.look_first-in-loop-more.new.tasks c.in_ok-look_first-2.field-0 c.loop-more.invariant.went
      c.look_first-in-loop-more.ensures.sits c.in_ok-look_first-2.ensures.swept;
}

pub returns-then-not-branch-2-clause-swept : goal.returns-then-not-branch-2-clause-swept
returns-then-not-branch-2-clause-swept g c =
    let p = plan_form c.args.plan.now in
    let u = c.look_first.new.seat.view in
    let w = c.look_first-in-loop-more.new.seat.view in
    went_after p c.args.seat.now.view u w c.args.tasks.now c.look_first.new.tasks c.look_first-in-loop-more.new.tasks c.in_ok-look_first.field-0
    c.in_ok-look_first.ensures.swept c.if-not-branch.false
    (went_on p u c.loop-more.seat.view w c.look_first.new.tasks c.loop-more.tasks c.look_first-in-loop-more.new.tasks c.in_ok-look_first-2.field-0
    c.loop-more.invariant.went c.look_first-in-loop-more.ensures.sits c.in_ok-look_first-2.ensures.swept)

pub returns-clause-swept : goal.returns-clause-swept
returns-clause-swept g c =
    went_after (plan_form c.args.plan.now) c.args.seat.now.view c.look_first.new.seat.view c.loop-more.seat.view c.args.tasks.now
    c.look_first.new.tasks c.loop-more.tasks c.in_ok-look_first.field-0 c.in_ok-look_first.ensures.swept c.if-not-branch.false
    c.loop-more.invariant.went

pub returns-then-not-branch-2-clause-lot : goal.returns-then-not-branch-2-clause-lot
returns-then-not-branch-2-clause-lot g c = c.look_first-in-loop-more.ensures.lot ∙ c.loop-more.invariant.lot ∙ c.look_first.ensures.lot

pub returns-then-not-branch-2-clause-sits : goal.returns-then-not-branch-2-clause-sits
returns-then-not-branch-2-clause-sits g c =
    sits_then c.args.seat.now.view c.loop-more.seat.view c.look_first-in-loop-more.new.seat.view
    (sits_then c.args.seat.now.view c.look_first.new.seat.view c.loop-more.seat.view c.look_first.ensures.sits c.loop-more.invariant.went.sits)
    c.look_first-in-loop-more.ensures.sits

pub returns-in_err-look_first-2-clause-lot : goal.returns-in_err-look_first-2-clause-lot
returns-in_err-look_first-2-clause-lot g c = c.look_first-in-loop-more.ensures.lot ∙ c.loop-more.invariant.lot ∙ c.look_first.ensures.lot

pub returns-in_err-look_first-2-clause-sits : goal.returns-in_err-look_first-2-clause-sits
returns-in_err-look_first-2-clause-sits g c =
    sits_then c.args.seat.now.view c.loop-more.seat.view c.look_first-in-loop-more.new.seat.view
    (sits_then c.args.seat.now.view c.look_first.new.seat.view c.loop-more.seat.view c.look_first.ensures.sits c.loop-more.invariant.went.sits)
    c.look_first-in-loop-more.ensures.sits

pub returns-clause-lot : goal.returns-clause-lot
returns-clause-lot g c = c.loop-more.invariant.lot ∙ c.look_first.ensures.lot

pub returns-clause-sits : goal.returns-clause-sits
returns-clause-sits g c =
    sits_then c.args.seat.now.view c.look_first.new.seat.view c.loop-more.seat.view c.look_first.ensures.sits c.loop-more.invariant.went.sits
