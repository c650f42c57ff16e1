use Rattle.std.proofs.Common.{[], sym, subst}
use Rattle.std.proofs.lemmas.Result.{on_ok_weaker}
use Rattle.work_code.specs.Term.{term}
use Rattle.kern_bags.specs.Following.{SelectsFlat}
use Rattle.river_kernels.specs.Kern.{select}
use Rattle.brooklet_step.specs.Given.{CanTake, FiresAt}
use Rattle.brooklet_step.proofs.BagLeaves.{select_item, select_flat_can, select_room}
use Rattle.brooklet_step.proofs.RowwiseFires.{select_flat_does}
use Rattle.brooklet_step.proofs.bag.fire_select.Goals as goal

pub flat_of-requires : goal.flat_of-requires
flat_of-requires c = select_item (term c.args.cond.now) c.args.item [] c.args.out.now c.requires

pub select-requires : goal.select-requires
select-requires c =
    let e = term c.args.cond.now in
    select_flat_can e c.flat_of.result [] c.args.out.now (subst (λ i. CanTake (select e) 0 i [] c.args.out.now) (sym c.flat_of.ensures) c.requires)

pub give_all-requires : goal.give_all-requires
give_all-requires c = select_room (term c.args.cond.now) c.args.item [] c.args.out.now c.requires

pub returns : goal.returns
returns c =
    let e = term c.args.cond.now in
    let f = c.flat_of.result in
    let items = c.select.new.out in
    let out = c.args.out.now in
    let out' = c.give_all.new.self in
    let can = subst (λ i. CanTake (select e) 0 i [] out) (sym c.flat_of.ensures) c.requires in
    let one = subst (λ l. SelectsFlat e f l items) c.take_items-items.ensures c.in_ok-select.ensures.ok in
    on_ok_weaker c.give_all.result (λ took.
    subst (λ i. FiresAt (select e) 0 i out out' [] []) c.flat_of.ensures (select_flat_does e f items out out' can one took)
    ) c.give_all.ensures
