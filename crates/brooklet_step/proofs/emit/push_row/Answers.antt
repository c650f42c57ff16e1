use Rattle.std.proofs.Common.{refl, [], ◌∷◌}
use Rattle.std.proofs.lemmas.Result.{on_ok_weaker}
use Rattle.river_base.specs.declared.item.Item.TheVariants as variant
use Rattle.river_base.specs.declared.item.Flat.TheVariants as flat
use Rattle.river_base.proofs.PlaceLemmas.{append_at_by}
use Rattle.brooklet_step.proofs.emit.push_row.Goals as goal

pub returns : goal.returns
returns c =
    on_ok_weaker c.push_values.result
    (λ h. append_at_by c.args.outs.now c.args.outs.now c.args.place c.at_mut.result.now (variant.Flat (flat.One c.args.row.now) ∷ []) c.push_values.new.self refl c.requires.place
    (c.at_mut.ensures.value c.at_mut.result.now) h)
    c.push_values.ensures.ok
