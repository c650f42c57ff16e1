use Rattle.std.proofs.Common.{[], ◌∷◌, sym, subst}
use Rattle.std.proofs.lemmas.Result.{on_ok_weaker}
use Rattle.kern_bags.specs.Following.{CrossesFlat}
use Rattle.river_kernels.specs.Kern.{cross}
use Rattle.brooklet_step.specs.declared.state.State.TheVariants as state
use Rattle.brooklet_step.specs.Given.{FiresAt}
use Rattle.brooklet_step.proofs.BagLeaves.{change_flat, flat_changed, cross_item, cross_flat_can, cross_room}
use Rattle.brooklet_step.proofs.CrossFires.{cross_flat_does}
use Rattle.brooklet_step.proofs.bag.fire_cross.Goals as goal

pub flat_of-requires : goal.flat_of-requires
flat_of-requires c = change_flat c.args.item (cross_item c.args.port c.args.item c.args.state.now c.args.out.now c.requires)

pub step-requires-clause-change : goal.step-requires-clause-change
step-requires-clause-change c =
    flat_changed c.flat_of.result c.args.item c.flat_of.ensures (cross_item c.args.port c.args.item c.args.state.now c.args.out.now c.requires)

pub step-requires-clause-fits : goal.step-requires-clause-fits
step-requires-clause-fits c =
    cross_flat_can c.args.port c.args.item c.args.state.now c.args.out.now c.requires c.in-Cross.rows c.flat_of.result c.in-Cross.is c.flat_of.ensures

pub give_all-requires : goal.give_all-requires
give_all-requires c = cross_room c.args.port c.args.item c.args.state.now c.args.out.now c.requires

pub returns : goal.returns
returns c =
    let p = c.args.port in
    let f = c.flat_of.result in
    let old = c.in-Cross.rows in
    let new = c.step.new.state in
    let items = c.step.new.out in
    let out = c.args.out.now in
    let out' = c.give_all.new.self in
    let is = flat_changed f c.args.item c.flat_of.ensures (cross_item p c.args.item c.args.state.now out c.requires) in
    let one = subst (λ l. CrossesFlat p f old new l items) c.take_items-items.ensures c.in_ok-step-in-Cross.ensures.ok in
    on_ok_weaker c.give_all.result (λ took.
    subst (λ s. FiresAt cross p c.args.item out out' (s ∷ []) (state.Cross new ∷ [])) (sym c.in-Cross.is)
    (subst (λ i. FiresAt cross p i out out' (state.Cross old ∷ []) (state.Cross new ∷ [])) c.flat_of.ensures
    (cross_flat_does p f items old new out out' is one took))
    ) c.give_all.ensures
