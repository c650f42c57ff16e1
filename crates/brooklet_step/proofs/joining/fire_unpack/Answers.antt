use Rattle.std.proofs.Common.{[], ◌∷◌, refl, subst}
use Rattle.std.proofs.lemmas.Result.{on_ok_weaker}
use Rattle.river_base.specs.declared.item.Item as item
use Rattle.river_base.specs.declared.item.Item.TheVariants.{Pack}
use Rattle.kern_rows.specs.Joined.{put_item, JoinsItems, JoinsPlainly, KeepsJoin}
use Rattle.kern_rows.specs.Turns.{ones}
use Rattle.brooklet_step.proofs.JoinFires.{unpack_needs, unpack_pack, unpack_does}
use Rattle.brooklet_step.proofs.joining.fire_unpack.Goals as goal

pub pack_of-requires : goal.pack_of-requires
pack_of-requires c = unpack_pack c.args.ports c.args.item c.args.port (c.args.state.now ∷ []) c.args.out.now c.requires

pub step-requires-clause-shape : goal.step-requires-clause-shape
step-requires-clause-shape c = (unpack_needs c.args.ports c.args.item c.args.port c.args.state.now c.in-Join.state c.args.out.now c.in-Join.is c.requires).1

pub step-requires-clause-port : goal.step-requires-clause-port
step-requires-clause-port c = (unpack_needs c.args.ports c.args.item c.args.port c.args.state.now c.in-Join.state c.args.out.now c.in-Join.is c.requires).2

pub give_all-requires : goal.give_all-requires
give_all-requires c = (unpack_needs c.args.ports c.args.item c.args.port c.args.state.now c.in-Join.state c.args.out.now c.in-Join.is c.requires).3

pub returns : goal.returns
returns c =
    let ws = ones c.args.ports in
    let i = c.args.item in
    let x : item.Item = Pack c.pack_of.result in
    let p = c.args.port in
    let old = c.in-Join.state in
    let new = c.step.new.state in
    let items = c.step.new.out in
    let one = c.in_ok-step-in-Join.ensures in
    let none = c.take_items-items.ensures in
    let is = c.pack_of.ensures in
    on_ok_weaker c.give_all.result (λ took. unpack_does c.args.ports i p c.args.state.now _ old new items c.args.out.now c.give_all.new.self
    (unpack_needs c.args.ports i p c.args.state.now old c.args.out.now c.in-Join.is c.requires).0 c.in-Join.is refl took
    (subst (λ y. JoinsItems ws (put_item p y old) new [] items) is (subst (λ l. JoinsItems ws (put_item p x old) new l items) none one.contents))
    (subst (λ y. JoinsPlainly ws (put_item p y old) new [] items) is (subst (λ l. JoinsPlainly ws (put_item p x old) new l items) none one.plain))
    (subst (λ y. KeepsJoin ws (put_item p y old) new [] items) is (subst (λ l. KeepsJoin ws (put_item p x old) new l items) none one.keeps))) c.give_all.ensures
