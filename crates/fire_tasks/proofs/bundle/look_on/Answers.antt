use Rattle.std.proofs.Common.{◌∙◌, refl, subst}
use Rattle.std.proofs.lemmas.Result.{IfOk-weaker}
use Rattle.river_plan.specs.Forms.{plan_form}
use Rattle.fire_tasks.specs.Bundles.{HasSwept}
use Rattle.fire_tasks.proofs.TurnLemmas.{sits_then}
use Rattle.fire_tasks.proofs.BundleLemmas.{swept_none, swept_more, swept_then}
use Rattle.fire_tasks.proofs.bundle.look_on.Goals as goal

pub loop-look-init : goal.loop-look-init
loop-look-init g c = record {
  lot = refl;
  swept =
      swept_none (plan_form c.args.plan.now) c.args.seat.now.view c.args.tasks.now c.requires.tasks c.requires.rests;
}

pub returns-in_err-sweep-clause-lot : goal.returns-in_err-sweep-clause-lot
returns-in_err-sweep-clause-lot g c = c.sweep.ensures.lot ∙ c.loop-look.invariant.lot

pub returns-in_err-sweep-clause-sits : goal.returns-in_err-sweep-clause-sits
returns-in_err-sweep-clause-sits g c =
    sits_then c.args.seat.now.view c.loop-look.seat.view c.sweep.new.seat.view c.loop-look.invariant.swept.sits c.sweep.ensures.sits

pub returns-then-branch-clause-lot : goal.returns-then-branch-clause-lot
returns-then-branch-clause-lot g c = c.sweep.ensures.lot ∙ c.loop-look.invariant.lot

pub returns-then-branch-clause-sits : goal.returns-then-branch-clause-sits
returns-then-branch-clause-sits g c =
    sits_then c.args.seat.now.view c.loop-look.seat.view c.sweep.new.seat.view c.loop-look.invariant.swept.sits c.sweep.ensures.sits

pub returns-then-branch-clause-swept : goal.returns-then-branch-clause-swept
returns-then-branch-clause-swept g c =
    let p = plan_form c.args.plan.now in
    subst (HasSwept p c.args.seat.now.view c.sweep.new.seat.view c.args.tasks.now c.sweep.new.tasks) c.if-branch.true
    (swept_then p c.args.seat.now.view c.loop-look.seat.view c.sweep.new.seat.view c.args.tasks.now c.loop-look.tasks c.sweep.new.tasks
    c.in_ok-sweep.field-0 c.loop-look.invariant.swept c.in_ok-sweep.ensures.swept)

pub loop-look-preserved : goal.loop-look-preserved
loop-look-preserved g c = record {
  lot = c.sweep.ensures.lot ∙ c.loop-look.invariant.lot;
  swept = swept_more (plan_form c.args.plan.now) c.args.seat.now.view c.loop-look.seat.view c.sweep.new.seat.view c.args.tasks.now c.loop-look.tasks
      c.sweep.new.tasks
      c.in_ok-sweep.field-0 c.loop-look.invariant.swept c.sweep.ensures.sits c.in_ok-sweep.ensures.swept c.if-branch.false;
}

pub returns-clause-lot : goal.returns-clause-lot
returns-clause-lot g c = c.sweep-2.ensures.lot ∙ c.loop-look.invariant.lot

pub returns-clause-sits : goal.returns-clause-sits
returns-clause-sits g c = sits_then c.args.seat.now.view c.loop-look.seat.view c.sweep-2.new.seat.view c.loop-look.invariant.swept.sits c.sweep-2.ensures.sits

pub returns-clause-swept : goal.returns-clause-swept
returns-clause-swept g c =
    IfOk-weaker c.sweep-2.result _ _
    (λ moved h. swept_then (plan_form c.args.plan.now) c.args.seat.now.view c.loop-look.seat.view c.sweep-2.new.seat.view c.args.tasks.now
    c.loop-look.tasks c.sweep-2.new.tasks
    moved c.loop-look.invariant.swept h)
    c.sweep-2.ensures.swept

pub returns-then-is_over_then-clause-swept : goal.returns-then-is_over_then-clause-swept
returns-then-is_over_then-clause-swept g c =
    let p = plan_form c.args.plan.now in
    let v = c.args.seat.now.view in
    let u = c.sweep.new.seat.view in
    IfOk-weaker c.sweep-then-is_over_then.result _ _
    (λ moved h. swept_then p v u c.sweep-then-is_over_then.new.seat.view c.args.tasks.now c.sweep.new.tasks c.sweep-then-is_over_then.new.tasks moved
    (swept_more p v c.loop-look.seat.view u c.args.tasks.now c.loop-look.tasks c.sweep.new.tasks c.in_ok-sweep.field-0 c.loop-look.invariant.swept
    c.sweep.ensures.sits c.in_ok-sweep.ensures.swept c.if-branch.false)
    h)
    c.sweep-then-is_over_then.ensures.swept
