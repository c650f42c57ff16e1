use Rattle.std.proofs.Common.{◌≡◌, ◌+◌, ◌-◌, ◌/◌, ◌≤◌, List, ℤ, length, ap, sym, ◌∙◌, subst}
use Rattle.rtrb.specs.Ring.{received}
use Rattle.river_rings.specs.Ends.{HasSeen, RingId, Sending, Taking, ring_of}
use Rattle.river_rings.specs.Rows.{AreWhole, rows_in, row_taking}
use Rattle.river_rings.proofs.RowLemmas.{looked_take, room_behind}
use Rattle.river_rings.proofs.rows.look_for_room.Goals as goal

pub look_beside-requires : goal.look_beside-requires
look_beside-requires c =
    let e : ring_of c.take.inside.width c.take.inside.end.end ≡ record c.feed.inside.end.ring { width = c.feed.inside.width } =
    ap (λ (t : Taking). t.id) c.take.view_is ∙ c.requires ∙ sym (ap (λ (s : Sending). s.id) c.feed.view_is) in
    (ap (λ (i : RingId). i.words) e, ap (λ (i : RingId). i.slots) e, ap (λ (i : RingId). i.names) e, ap (λ (i : RingId). i.heap) e)

pub invariant_of-feed : goal.invariant_of-feed
invariant_of-feed c = (
  subst (λ (l : List ℤ). AreWhole c.feed.inside.width l) (sym c.look_beside.ensures.looked.1) c.feed.invariant.0,
  c.look_beside.ensures.most,
)

pub returns-clause-take : goal.returns-clause-take
returns-clause-take c =
    let w = c.take.inside.width in
    let d = c.look_beside.new.take in
    subst (λ (t : Taking). HasSeen t (row_taking w d)) c.take.view_is
    (looked_take w c.take.inside.end d c.take.invariant.some c.look_beside.ensures.take)

pub returns-clause-room : goal.returns-clause-room
returns-clause-room c =
    let w = c.feed.inside.width in
    let q = c.look_beside.new.self in
    let rs = received c.look_beside.new.take in
    let same : c.take.inside.width ≡ w =
    ap (λ (t : Taking). t.id.width) c.take.view_is ∙ ap (λ (i : RingId). i.width) c.requires ∙ sym (ap (λ (s : Sending). s.id.width) c.feed.view_is) in
    let whole : AreWhole w q.sent = subst (λ (l : List ℤ). AreWhole w l) (sym c.look_beside.ensures.looked.1) c.feed.invariant.0 in
    let taken : AreWhole w rs =
    subst (λ (l : List ℤ). AreWhole w l) (sym c.look_beside.ensures.take.1) (subst (λ n. AreWhole n (received c.take.inside.end)) same c.take.invariant) in
    subst (λ n. q.capacity / w - q.free / w + length (rows_in n rs) ≤ length (rows_in w q.sent)) (sym same)
    (room_behind w q rs c.look_beside.ensures.most whole taken c.look_beside.ensures.free)
