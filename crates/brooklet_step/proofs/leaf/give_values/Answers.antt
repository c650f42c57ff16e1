use Rattle.std.proofs.Common.{refl, [], ◌∷◌, sym, map, ◌∙◌}
use Rattle.std.proofs.lemmas.Result.{on_ok_weaker}
use Rattle.river_base.specs.declared.item.Item.TheVariants as variant
use Rattle.river_base.specs.declared.item.Flat.TheVariants as flat
use Rattle.river_base.proofs.PlaceLemmas.{append_at_by, each_grew-only, each_grew-none}
use Rattle.brooklet_step.proofs.leaf.give_values.Goals as goal

pub returns : goal.returns
returns c =
    let given = map (λ v. variant.Flat (flat.One (v ∷ []))) c.args.values.now in
    on_ok_weaker c.add_values.result
    (λ h. record {
      outs =
          append_at_by c.args.out.now.outs c.args.out.now.outs 0 c.at_mut.result.now given c.add_values.new.line refl c.requires
          (c.at_mut.ensures.value c.at_mut.result.now) h
          ∙ sym (each_grew-only c.args.out.now.outs 0 given);
      adds = sym (each_grew-none c.args.out.now.adds);
    })
    c.add_values.ensures
