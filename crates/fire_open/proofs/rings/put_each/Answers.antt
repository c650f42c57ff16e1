use Rattle.std.proofs.Common.{length, arith, refl, subst}
use Rattle.std.proofs.lemmas.Option.{slice_get_read}
use Rattle.river_plan.specs.Caps.{own_of}
use Rattle.fire_open.specs.Links.{Put, room_of}
use Rattle.fire_open.proofs.RingLemmas.{rung_first, rung_next, asks_there}
use Rattle.fire_open.proofs.rings.put_each.Goals as goal

pub put_ring-requires-clause-order : goal.put_ring-requires-clause-order
put_ring-requires-clause-order c =
    let l = c.at-link.result.now in
    (asks_there (room_of c.args.plan.now c.args.cap
    (own_of c.args.own.now)) c.args.tasks.now c.loop-place.tasks c.args.links.now c.loop-place.place l c.requires.there c.loop-place.invariant
    (slice_get_read c.args.links.now (length c.args.links.now) c.loop-place.place l refl (omega arith) (c.at-link.ensures l))).order

pub put_ring-requires-clause-reader : goal.put_ring-requires-clause-reader
put_ring-requires-clause-reader c =
    let l = c.at-link.result.now in
    (asks_there (room_of c.args.plan.now c.args.cap
    (own_of c.args.own.now)) c.args.tasks.now c.loop-place.tasks c.args.links.now c.loop-place.place l c.requires.there c.loop-place.invariant
    (slice_get_read c.args.links.now (length c.args.links.now) c.loop-place.place l refl (omega arith) (c.at-link.ensures l))).reader

pub put_ring-requires-clause-out : goal.put_ring-requires-clause-out
put_ring-requires-clause-out c =
    let l = c.at-link.result.now in
    (asks_there (room_of c.args.plan.now c.args.cap
    (own_of c.args.own.now)) c.args.tasks.now c.loop-place.tasks c.args.links.now c.loop-place.place l c.requires.there c.loop-place.invariant
    (slice_get_read c.args.links.now (length c.args.links.now) c.loop-place.place l refl (omega arith) (c.at-link.ensures l))).out

pub put_ring-requires-clause-port : goal.put_ring-requires-clause-port
put_ring-requires-clause-port c =
    let l = c.at-link.result.now in
    (asks_there (room_of c.args.plan.now c.args.cap
    (own_of c.args.own.now)) c.args.tasks.now c.loop-place.tasks c.args.links.now c.loop-place.place l c.requires.there c.loop-place.invariant
    (slice_get_read c.args.links.now (length c.args.links.now) c.loop-place.place l refl (omega arith) (c.at-link.ensures l))).port

pub loop-place-init : goal.loop-place-init
loop-place-init c = rung_first (room_of c.args.plan.now c.args.cap (own_of c.args.own.now)) c.args.tasks.now c.args.links.now

pub loop-place-preserved : goal.loop-place-preserved
loop-place-preserved c =
    let l = c.at-link.result.now in
    rung_next (room_of c.args.plan.now c.args.cap
    (own_of c.args.own.now)) c.args.tasks.now c.loop-place.tasks c.put_ring.new.tasks c.args.links.now c.loop-place.place l c.requires.there
    (slice_get_read c.args.links.now (length c.args.links.now) c.loop-place.place l refl (omega arith) (c.at-link.ensures l)) c.loop-place.invariant
    (subst (λ n. Put n c.loop-place.tasks c.put_ring.new.tasks l) c.room_of-room.ensures.room c.in_ok-put_ring.ensures)

pub room_of-room-requires-clause-link : goal.room_of-room-requires-clause-link
room_of-room-requires-clause-link c =
    let l = c.at-link.result.now in
    c.requires.links.right c.loop-place.place l
    (slice_get_read c.args.links.now (length c.args.links.now) c.loop-place.place l refl (omega arith) (c.at-link.ensures l))
