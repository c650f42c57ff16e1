use Rattle.std.proofs.Common.{IsTrue, refl, subst, arith}
use Rattle.river_plan.specs.Forms.{op_form, plan_form}
use Rattle.river_plan.proofs.NameLemmas.{not_false}
use Rattle.plan_check.proofs.Remains.{remains_by-next, remains_by-found}
use Rattle.river_plan.proofs.WiredLemmas.{fits-named, fits-placed}
use Rattle.plan_check.proofs.misfit.first_misfit.Goals as goal

pub loop-number-preserved : goal.loop-number-preserved
loop-number-preserved c =
    let e = c.at-op.ensures c.at-op.result.now in
    remains_by-next _ _ _ _ c.at-op.result.now (omega arith) e
    (fits-named (plan_form c.args.raw.now) c.args.wiring.now c.args.queues.now c.args.vars.now c.loop-number.number c.at-op.result.now c.requires.wired
    c.requires.queues c.requires.vars
    c.args.raw.now.ops refl (omega arith) e (c.in_ok-is_fit.ensures.0 c.if-not-branch.false))
    c.loop-number.invariant

pub returns-then-not-branch : goal.returns-then-not-branch
returns-then-not-branch c =
    let e = c.at-op.ensures c.at-op.result.now in (
      op_form c.at-op.result.now,
      refl,
      remains_by-found _ _ _ _ c.at-op.result.now _ (omega arith) e (
        (λ g. not_false (subst IsTrue c.if-not-branch.true (c.in_ok-is_fit.ensures.1
            (fits-placed (plan_form c.args.raw.now) c.args.wiring.now c.args.queues.now c.args.vars.now c.loop-number.number c.at-op.result.now
            c.requires.wired c.requires.queues c.requires.vars
            c.args.raw.now.ops refl (omega arith) e g)))),
        refl,
      )
          c.loop-number.invariant,
    )
