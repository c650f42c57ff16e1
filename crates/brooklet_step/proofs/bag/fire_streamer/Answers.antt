use Rattle.std.proofs.Common.{[], ◌∷◌, sym, subst}
use Rattle.std.proofs.lemmas.Result.{on_ok_weaker}
use Rattle.kern_bags.specs.Following.{StreamsFlat}
use Rattle.river_kernels.specs.Kern.{streamer}
use Rattle.brooklet_step.specs.declared.state.State.TheVariants as state
use Rattle.brooklet_step.specs.Given.{FiresAt}
use Rattle.brooklet_step.proofs.BagLeaves.{change_flat, flat_changed, streamer_item, streamer_room}
use Rattle.brooklet_step.proofs.StreamFires.{streamer_flat_does}
use Rattle.brooklet_step.proofs.bag.fire_streamer.Goals as goal

pub flat_of-requires : goal.flat_of-requires
flat_of-requires c = change_flat c.args.item (streamer_item c.args.streamer.now c.args.item (c.args.state.now ∷ []) c.args.out.now c.requires)

pub step-requires : goal.step-requires
step-requires c =
    flat_changed c.flat_of.result c.args.item c.flat_of.ensures
    (streamer_item c.args.streamer.now c.args.item (c.args.state.now ∷ []) c.args.out.now c.requires)

pub give_all-requires : goal.give_all-requires
give_all-requires c = streamer_room c.args.streamer.now c.args.item (c.args.state.now ∷ []) c.args.out.now c.requires

pub returns : goal.returns
returns c =
    let s = c.args.streamer.now in
    let f = c.flat_of.result in
    let old = c.in-Streamer.content in
    let new = c.step.new.state in
    let items = c.step.new.out in
    let out = c.args.out.now in
    let out' = c.give_all.new.self in
    let is = flat_changed f c.args.item c.flat_of.ensures (streamer_item s c.args.item (c.args.state.now ∷ []) out c.requires) in
    let one = subst (λ l. StreamsFlat s f old new l items) c.take_items-items.ensures c.in_ok-step-in-Streamer.ensures.ok in
    on_ok_weaker c.give_all.result (λ took.
    subst (λ st. FiresAt (streamer s) 0 c.args.item out out' (st ∷ []) (state.Streamer new ∷ [])) (sym c.in-Streamer.is)
    (subst (λ i. FiresAt (streamer s) 0 i out out' (state.Streamer old ∷ []) (state.Streamer new ∷ [])) c.flat_of.ensures
    (streamer_flat_does s f items old new out out' is one took))
    ) c.give_all.ensures
