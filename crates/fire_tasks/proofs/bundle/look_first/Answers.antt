use Rattle.std.proofs.Common.{◌∙◌, subst}
use Rattle.std.proofs.lemmas.Result.{IfOk-weaker}
use Rattle.river_plan.specs.Forms.{plan_form}
use Rattle.fire_tasks.specs.Bundles.{HasSwept}
use Rattle.fire_tasks.proofs.TurnLemmas.{sits_then}
use Rattle.fire_tasks.proofs.BundleLemmas.{swept_both}
use Rattle.fire_tasks.proofs.bundle.look_first.Goals as goal

pub returns-then-branch-clause-swept : goal.returns-then-branch-clause-swept
returns-then-branch-clause-swept g c =
    subst (HasSwept (plan_form c.args.plan.now) c.args.seat.now.view c.sweep.new.seat.view c.args.tasks.now c.sweep.new.tasks) c.if-branch.true
    c.in_ok-sweep.ensures.swept

pub returns-clause-lot : goal.returns-clause-lot
returns-clause-lot g c = c.look_on.ensures.lot ∙ c.sweep.ensures.lot

pub returns-clause-sits : goal.returns-clause-sits
returns-clause-sits g c = sits_then c.args.seat.now.view c.sweep.new.seat.view c.look_on.new.seat.view c.sweep.ensures.sits c.look_on.ensures.sits

pub returns-clause-swept : goal.returns-clause-swept
returns-clause-swept g c =
    IfOk-weaker c.look_on.result _ _
    (λ moved h. swept_both (plan_form c.args.plan.now) c.args.seat.now.view c.sweep.new.seat.view c.look_on.new.seat.view c.args.tasks.now
    c.sweep.new.tasks c.look_on.new.tasks c.in_ok-sweep.field-0 moved c.requires.tasks c.requires.rests c.sweep.ensures.sits
    c.in_ok-sweep.ensures.swept c.if-branch.false h)
    c.look_on.ensures.swept
