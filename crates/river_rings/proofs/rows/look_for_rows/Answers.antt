use Rattle.std.proofs.Common.{◌≡◌, ◌/◌, List, ℤ, ap, sym, ◌∙◌, subst}
use Rattle.rtrb.specs.Ring.{received, known_items, consumer_capacity}
use Rattle.river_rings.specs.Ends.{HasSeen, RingId, Sending, Taking, ring_of}
use Rattle.river_rings.specs.Rows.{AreWhole, rows_in, row_taking}
use Rattle.river_rings.proofs.RowLemmas.{looked_take, known_most, rows-both}
use Rattle.river_rings.proofs.rows.look_for_rows.Goals as goal

pub show_beside-requires : goal.show_beside-requires
show_beside-requires c =
    let e : ring_of c.take.inside.width c.take.inside.end.end ≡ record c.feed.inside.end.ring { width = c.feed.inside.width } =
    ap (λ (t : Taking). t.id) c.take.view_is ∙ c.requires ∙ sym (ap (λ (s : Sending). s.id) c.feed.view_is) in
    (ap (λ (i : RingId). i.words) e, ap (λ (i : RingId). i.slots) e, ap (λ (i : RingId). i.names) e, ap (λ (i : RingId). i.heap) e)

pub invariant_of-feed : goal.invariant_of-feed
invariant_of-feed c = (
  subst (λ (l : List ℤ). AreWhole c.feed.inside.width l) (sym c.show_beside.ensures.looked.1) c.feed.invariant.0,
  c.show_beside.ensures.most,
)

pub returns-clause-take : goal.returns-clause-take
returns-clause-take c =
    let w = c.take.inside.width in
    let d = c.show_beside.new.take in
    subst (λ (t : Taking). HasSeen t (row_taking w d)) c.take.view_is
    (looked_take w c.take.inside.end d c.take.invariant.some c.show_beside.ensures.take)

pub returns-clause-ends : goal.returns-clause-ends
returns-clause-ends c =
    let same : c.take.inside.width ≡ c.feed.inside.width =
    ap (λ (t : Taking). t.id.width) c.take.view_is ∙ ap (λ (i : RingId). i.width) c.requires ∙ sym (ap (λ (s : Sending). s.id.width) c.feed.view_is) in
    ap (λ n. n / c.take.inside.width) c.show_beside.ensures.capacity ∙ ap (λ n. c.show_beside.new.self.capacity / n) same

pub returns-clause-order : goal.returns-clause-order
returns-clause-order c =
    let w = c.take.inside.width in
    let d = c.show_beside.new.take in
    let same : w ≡ c.feed.inside.width =
    ap (λ (t : Taking). t.id.width) c.take.view_is ∙ ap (λ (i : RingId). i.width) c.requires ∙ sym (ap (λ (s : Sending). s.id.width) c.feed.view_is) in
    let whole : AreWhole w (received d) = subst (λ (l : List ℤ). AreWhole w l) (sym c.show_beside.ensures.take.1) c.take.invariant in
    sym (rows-both w (received d) (known_items d) whole)
    ∙ ap (rows_in w) c.show_beside.ensures.order
    ∙ ap (λ n. rows_in n c.show_beside.new.self.sent) same

pub returns-clause-bound : goal.returns-clause-bound
returns-clause-bound c = known_most c.take.inside.width c.show_beside.new.take c.take.invariant.some
