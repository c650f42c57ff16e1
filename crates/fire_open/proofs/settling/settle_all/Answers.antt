use Rattle.std.proofs.Common.{length, arith, refl}
use Rattle.std.proofs.lemmas.Option.{slice_get_read}
use Rattle.fire_open.proofs.SettleLemmas.{settling_first, settling_next, asks_at, met_all}
use Rattle.fire_open.proofs.settling.settle_all.Goals as goal

pub settle_one-requires-clause-order : goal.settle_one-requires-clause-order
settle_one-requires-clause-order c =
    let l = c.at-link.result.now in
    (asks_at c.args.tasks.now c.loop-place.tasks c.args.links.now c.loop-place.place l c.requires.paired c.loop-place.invariant
    (slice_get_read c.args.links.now (length c.args.links.now) c.loop-place.place l refl (omega arith) (c.at-link.ensures l))).order

pub settle_one-requires-clause-reader : goal.settle_one-requires-clause-reader
settle_one-requires-clause-reader c =
    let l = c.at-link.result.now in
    (asks_at c.args.tasks.now c.loop-place.tasks c.args.links.now c.loop-place.place l c.requires.paired c.loop-place.invariant
    (slice_get_read c.args.links.now (length c.args.links.now) c.loop-place.place l refl (omega arith) (c.at-link.ensures l))).reader

pub settle_one-requires-clause-out : goal.settle_one-requires-clause-out
settle_one-requires-clause-out c =
    let l = c.at-link.result.now in
    (asks_at c.args.tasks.now c.loop-place.tasks c.args.links.now c.loop-place.place l c.requires.paired c.loop-place.invariant
    (slice_get_read c.args.links.now (length c.args.links.now) c.loop-place.place l refl (omega arith) (c.at-link.ensures l))).out

pub settle_one-requires-clause-port : goal.settle_one-requires-clause-port
settle_one-requires-clause-port c =
    let l = c.at-link.result.now in
    (asks_at c.args.tasks.now c.loop-place.tasks c.args.links.now c.loop-place.place l c.requires.paired c.loop-place.invariant
    (slice_get_read c.args.links.now (length c.args.links.now) c.loop-place.place l refl (omega arith) (c.at-link.ensures l))).port

pub settle_one-requires-clause-pair : goal.settle_one-requires-clause-pair
settle_one-requires-clause-pair c =
    let l = c.at-link.result.now in
    (asks_at c.args.tasks.now c.loop-place.tasks c.args.links.now c.loop-place.place l c.requires.paired c.loop-place.invariant
    (slice_get_read c.args.links.now (length c.args.links.now) c.loop-place.place l refl (omega arith) (c.at-link.ensures l))).pair

pub loop-place-init : goal.loop-place-init
loop-place-init c = settling_first c.args.tasks.now c.args.links.now

pub loop-place-preserved : goal.loop-place-preserved
loop-place-preserved c =
    let l = c.at-link.result.now in
    settling_next c.args.tasks.now c.args.links.now c.loop-place.place c.loop-place.tasks c.settle_one.new.tasks l c.requires.paired c.requires.apart
    (slice_get_read c.args.links.now (length c.args.links.now) c.loop-place.place l refl (omega arith)
    (c.at-link.ensures l)) c.loop-place.invariant c.settle_one.ensures

pub returns-clause-met : goal.returns-clause-met
returns-clause-met c = met_all c.args.tasks.now c.loop-place.tasks c.args.links.now c.loop-place.place c.loop-place.invariant (omega arith)
