use Rattle.std.proofs.Common.{ap, ◌∙◌, sym, subst, [], ◌∷◌}
use Rattle.std.specs.Result.{OnOk}
use Rattle.river_base.specs.declared.item.Item.TheVariants as variant
use Rattle.river_base.specs.declared.item.Flat.TheVariants as flat
use Rattle.kern_rows.specs.Forms.{filter_form}
use Rattle.river_kernels.specs.Kern.{filter}
use Rattle.brooklet_model.specs.Fire.{fire}
use Rattle.brooklet_step.specs.Stands.{Applies, Fires}
use Rattle.brooklet_step.proofs.leaf.fire_filter.Goals as goal

pub filter_row-requires-clause-applies : goal.filter_row-requires-clause-applies
filter_row-requires-clause-applies c =
    let is = ap (λ r. variant.Flat (flat.One r)) c.values.ensures.values ∙ c.row_of.ensures.is in
    subst (λ i. Applies (filter (filter_form c.args.filter.now)) 0 i (c.args.state.now ∷ []) c.args.out.now) (sym is) c.requires

pub returns : goal.returns
returns c =
    let k = filter (filter_form c.args.filter.now) in
    let is = ap (λ r. variant.Flat (flat.One r)) c.values.ensures.values ∙ c.row_of.ensures.is in
    subst (λ i. OnOk c.filter_row.result (Fires k c.args.out.now c.filter_row.new.out (c.args.state.now ∷ []) (c.filter_row.new.state ∷ []) (fire k 0 i))) is
    c.filter_row.ensures
