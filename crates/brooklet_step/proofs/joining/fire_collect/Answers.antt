use Rattle.std.proofs.Common.{refl, subst}
use Rattle.std.proofs.lemmas.Result.{on_ok_weaker}
use Rattle.kern_rows.specs.Joined.{put_item, JoinsItems, JoinsPlainly, KeepsJoin}
use Rattle.kern_rows.specs.Turns.{shares}
use Rattle.brooklet_step.proofs.JoinFires.{collect_needs, collect_does}
use Rattle.brooklet_step.proofs.joining.fire_collect.Goals as goal

pub step-requires-clause-weights : goal.step-requires-clause-weights
step-requires-clause-weights c =
    (collect_needs c.args.weights.now c.args.item c.args.port c.args.state.now c.in-Join.state c.args.out.now c.in-Join.is c.requires).0

pub step-requires-clause-shape : goal.step-requires-clause-shape
step-requires-clause-shape c =
    (collect_needs c.args.weights.now c.args.item c.args.port c.args.state.now c.in-Join.state c.args.out.now c.in-Join.is c.requires).1

pub step-requires-clause-port : goal.step-requires-clause-port
step-requires-clause-port c =
    (collect_needs c.args.weights.now c.args.item c.args.port c.args.state.now c.in-Join.state c.args.out.now c.in-Join.is c.requires).2

pub give_all-requires : goal.give_all-requires
give_all-requires c = (collect_needs c.args.weights.now c.args.item c.args.port c.args.state.now c.in-Join.state c.args.out.now c.in-Join.is c.requires).3

pub returns : goal.returns
returns c =
    let ws = shares c.args.weights.now in
    let i = c.args.item in
    let p = c.args.port in
    let old = c.in-Join.state in
    let new = c.step.new.state in
    let items = c.step.new.out in
    let one = c.in_ok-step-in-Join.ensures in
    let none = c.take_items-items.ensures in
    on_ok_weaker c.give_all.result (λ took. collect_does c.args.weights.now i p c.args.state.now _ old new items c.args.out.now c.give_all.new.self
    (collect_needs c.args.weights.now i p c.args.state.now old c.args.out.now c.in-Join.is c.requires).0 c.in-Join.is refl took
    (subst (λ l. JoinsItems ws (put_item p i old) new l items) none one.contents)
    (subst (λ l. JoinsPlainly ws (put_item p i old) new l items) none one.plain)
    (subst (λ l. KeepsJoin ws (put_item p i old) new l items) none one.keeps)) c.give_all.ensures
