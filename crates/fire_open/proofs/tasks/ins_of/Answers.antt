use Rattle.std.proofs.Common.{ap, ◌∙◌, subst, arith, map}
use Rattle.std.proofs.lemmas.List.{take_all}
use Rattle.fire_open.specs.First.{HasLeft, whole_list}
use Rattle.fire_open.proofs.TakenLemmas.{ins_begin, ins_next}
use Rattle.fire_open.proofs.tasks.ins_of.Goals as goal

pub loop-place-init : goal.loop-place-init
loop-place-init c = ins_begin c.args.queues.now c.new-ins.result c.new-ins.ensures

pub whole_list-requires : goal.whole_list-requires
whole_list-requires c = let m = c.loop-place.invariant.left.many in let t = c.requires.there c.loop-place.place-index 0 (omega arith) in omega (arith, m, t)

pub loop-place-preserved : goal.loop-place-preserved
loop-place-preserved c =
    ins_next c.args.queues.now c.args.places.now c.loop-place.place-index c.loop-place.ins c.push.new.self c.loop-place.queues c.whole_list.new.queues
    c.whole_list.result
    c.requires.apart c.loop-place.invariant (omega arith) c.whole_list.ensures.inlet c.whole_list.ensures.left c.in_ok-push.ensures.ok

pub returns-clause-ins : goal.returns-clause-ins
returns-clause-ins c =
    c.loop-place.invariant.ins_are ∙ ap (map (whole_list c.args.queues.now)) (take_all c.loop-place.place-index c.args.places.now (omega arith))

pub returns-clause-left : goal.returns-clause-left
returns-clause-left c =
    subst (λ ps. HasLeft ps c.args.queues.now c.loop-place.queues)
    (take_all c.loop-place.place-index c.args.places.now (omega arith)) c.loop-place.invariant.left
