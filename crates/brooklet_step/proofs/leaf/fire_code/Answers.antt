use Rattle.std.proofs.Common.{ap, ◌∙◌, sym, subst}
use Rattle.std.specs.Result.{OnOk}
use Rattle.river_base.specs.declared.item.Item.TheVariants as variant
use Rattle.river_base.specs.declared.item.Flat.TheVariants as flat
use Rattle.kern_rows.specs.Forms.{code_form}
use Rattle.river_kernels.specs.Kern.{code}
use Rattle.brooklet_model.specs.Fire.{fire}
use Rattle.brooklet_step.specs.Stands.{Applies, Fires}
use Rattle.brooklet_step.proofs.Leaves.{code_row}
use Rattle.brooklet_step.proofs.leaf.fire_code.Goals as goal

pub row_of-requires : goal.row_of-requires
row_of-requires c = (code_row (code_form c.args.kernel.now) c.args.item c.args.states.now c.requires.takes).0

pub run_row-requires : goal.run_row-requires
run_row-requires c =
    let is = ap (λ r. variant.Flat (flat.One r)) c.values.ensures.values ∙ c.row_of.ensures.is in
    subst (λ i. Applies (code (code_form c.args.kernel.now)) 0 i c.args.states.now c.args.out.now) (sym is) c.requires

pub returns : goal.returns
returns c =
    let k = code (code_form c.args.kernel.now) in
    let is = ap (λ r. variant.Flat (flat.One r)) c.values.ensures.values ∙ c.row_of.ensures.is in
    subst (λ i. OnOk c.run_row.result (Fires k c.args.out.now c.run_row.new.out c.args.states.now c.run_row.new.states (fire k 0 i))) is c.run_row.ensures
