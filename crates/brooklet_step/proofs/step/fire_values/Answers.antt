use Rattle.std.proofs.Common.{refl}
use Rattle.std.proofs.lemmas.Result.{on_ok_weaker}
use Rattle.river_base.specs.declared.item.Item.TheVariants as variant
use Rattle.river_base.specs.declared.item.Flat.TheVariants as flat
use Rattle.river_kernels.specs.Kern.{kern_of}
use Rattle.river_plan.specs.Forms.{plan_form}
use Rattle.brooklet_step.proofs.NextLemmas.{kernel_at, op_there, fire_applies, fired_op}
use Rattle.brooklet_step.proofs.step.fire_values.Goals as goal

pub at-requires : goal.at-requires
at-requires c = op_there c.args.raw.now (plan_form c.args.raw.now) c.args.op c.requires.can.op refl c.requires.can.op_is

pub fire_row-requires-clause-can : goal.fire_row-requires-clause-can
fire_row-requires-clause-can c =
    let can = c.requires.can in
    let p = plan_form c.args.raw.now in
    let k = kernel_at c.args.raw.now p c.args.op c.at.result.now can.op refl can.op_is (c.at.ensures c.at.result.now) in
    fire_applies p c.args.op c.args.port (variant.Flat (flat.One c.args.row.now)) c.args.states.now c.args.out.now (kern_of c.at.result.now.kernel) can k
    (c.requires.blank.blank can.op can.op_is)

pub returns : goal.returns
returns c =
    let can = c.requires.can in
    let p = plan_form c.args.raw.now in
    let k = kernel_at c.args.raw.now p c.args.op c.at.result.now can.op refl can.op_is (c.at.ensures c.at.result.now) in
    on_ok_weaker c.fire_row.result
    (λ h. fired_op p c.args.op c.args.port (variant.Flat (flat.One c.args.row.now)) c.args.states.now c.fire_row.new.states c.args.out.now c.fire_row.new.out
    (kern_of c.at.result.now.kernel) can k (c.requires.blank.blank can.op can.op_is) h)
    c.fire_row.ensures
