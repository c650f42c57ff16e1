use Rattle.std.proofs.Common.{subst, sym}
use Rattle.std.specs.Prelude.{OnOk}
use Rattle.river_base.specs.declared.item.Item.TheVariants as variant
use Rattle.river_base.specs.declared.item.Flat.TheVariants as flat
use Rattle.river_plan.specs.Forms.{PlanForm}
use Rattle.brooklet_step.specs.Reading.{CanFire, IsBlankOf, FiredOp}
use Rattle.brooklet_run.proofs.turn.fire_row.Goals as goal

pub fire_values-requires-clause-can : goal.fire_values-requires-clause-can
fire_values-requires-clause-can c =
    subst (λ (p : PlanForm). CanFire p c.args.op c.args.port (variant.Flat (flat.One c.args.row.now)) c.args.states.now) (sym c.raw.ensures.raw) c.requires.can

pub fire_values-requires-clause-blank : goal.fire_values-requires-clause-blank
fire_values-requires-clause-blank c = subst (λ (p : PlanForm). IsBlankOf p c.args.op c.args.out.now) (sym c.raw.ensures.raw) c.requires.blank

pub returns : goal.returns
returns c =
    subst (λ (p : PlanForm). OnOk c.fire_values.result
    (FiredOp p c.args.op c.args.port (variant.Flat (flat.One c.args.row.now)) c.args.states.now c.fire_values.new.states c.fire_values.new.out))
    c.raw.ensures.raw c.fire_values.ensures
