use Rattle.std.proofs.Common.{subst, sym}
use Rattle.std.specs.Prelude.{OnOk}
use Rattle.river_plan.specs.Forms.{PlanForm}
use Rattle.brooklet_step.specs.Reading.{CanFire, IsBlankOf, FiredOp}
use Rattle.brooklet_run.proofs.turn.fire_of.Goals as goal

pub fire_op-requires-clause-can : goal.fire_op-requires-clause-can
fire_op-requires-clause-can c =
    subst (λ (p : PlanForm). CanFire p c.args.op c.args.port c.args.item c.args.states.now) (sym c.raw.ensures.raw) c.requires.can

pub fire_op-requires-clause-blank : goal.fire_op-requires-clause-blank
fire_op-requires-clause-blank c = subst (λ (p : PlanForm). IsBlankOf p c.args.op c.args.out.now) (sym c.raw.ensures.raw) c.requires.blank

pub returns : goal.returns
returns c =
    subst (λ (p : PlanForm). OnOk c.fire_op.result (FiredOp p c.args.op c.args.port c.args.item c.args.states.now c.fire_op.new.states c.fire_op.new.out))
    c.raw.ensures.raw c.fire_op.ensures
