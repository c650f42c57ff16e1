use Rattle.std.proofs.Common.{ap, ◌∙◌, subst, [], ◌∷◌}
use Rattle.std.specs.Prelude.{OnOk}
use Rattle.river_base.specs.declared.item.Item.TheVariants.{Pack}
use Rattle.river_base.specs.Held.{flats}
use Rattle.brooklet_model.specs.Firings.{gives}
use Rattle.brooklet_step.specs.Took.{Took}
use Rattle.brooklet_step.proofs.firing.give_pack.Goals as goal

pub returns : goal.returns
returns c =
    subst (λ fs. OnOk c.give.result (Took c.args.out.now c.give.new.self (gives 0 (Pack fs ∷ []) [])))
    (c.in_ok-pack.ensures ∙ ap flats c.take_port-line.ensures.taken)
    c.give.ensures
