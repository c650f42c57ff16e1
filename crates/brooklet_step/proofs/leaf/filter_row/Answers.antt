use Rattle.std.proofs.Common.{rules, ◌≡◌, refl, subst, ℤ, pos, List, to_z, of_z, w64}
use Rattle.std.proofs.lemmas.Result.{on_ok_weaker}
use Rattle.std.specs.Prelude.{slice_index_or}
use Rattle.river_base.specs.declared.item.Item.TheVariants as variant
use Rattle.river_base.specs.declared.item.Flat.TheVariants as flat
use Rattle.kern_rows.specs.Stands.{Filters}
use Rattle.kern_rows.specs.Forms.{filter_form}
use Rattle.brooklet_step.proofs.Leaves.{filter_can, filter_fires}
use Rattle.brooklet_step.proofs.leaf.filter_row.Goals as goal

pub step-requires-clause-formed : goal.step-requires-clause-formed
step-requires-clause-formed c = filter_can (filter_form c.args.filter.now) 0 (variant.Flat (flat.One c.args.row.now)) _ c.requires.applies.takes

pub returns : goal.returns
returns c =
    let f = filter_form c.args.filter.now in
    let x = variant.Flat (flat.One c.args.row.now) in
    let one = c.in_ok-step-in-Filter.ensures in
    let v = to_z w64 (of_z w64 (slice_index_or c.args.row.now 0 (pos 0))) in
    let is : v ≡ slice_index_or c.args.row.now 0 (pos 0) = search rules in
    on_ok_weaker c.give_values-given.result
    (λ took. filter_fires f x c.args.state.now _ c.in-Filter.state c.step.new.state v c.step.new.out _ c.args.out.now c.give_values-given.new.out
    (filter_can f 0 x _ c.requires.applies.takes) c.requires.applies.room c.in-Filter.is refl is
    (subst (λ (l : List ℤ). Filters f v c.in-Filter.state c.step.new.state l c.step.new.out) c.take_values-values.ensures one.given)
    one.shape refl took)
    c.give_values-given.ensures
