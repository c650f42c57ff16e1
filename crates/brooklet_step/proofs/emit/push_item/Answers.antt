use Rattle.std.proofs.Common.{refl, [], ◌∷◌}
use Rattle.std.proofs.lemmas.Result.{on_ok_weaker}
use Rattle.river_base.proofs.PlaceLemmas.{append_at_by}
use Rattle.brooklet_step.proofs.emit.push_item.Goals as goal

pub returns : goal.returns
returns c =
    on_ok_weaker c.push.result
    (λ h. append_at_by c.args.outs.now c.args.outs.now c.args.place c.at_mut.result.now (c.args.item ∷ []) c.push.new.self refl c.requires
    (c.at_mut.ensures.value c.at_mut.result.now) h)
    c.push.ensures.ok
