use Rattle.std.proofs.Common.{◌≡◌, ◌+◌, ◌-◌, ◌/◌, ◌≤◌, [], ◌∷◌, ◌++◌, length, ap, sym, ◌∙◌, subst}
use Rattle.river_rings.specs.Ends.{Sending}
use Rattle.river_rings.specs.Rows.{row_item}
use Rattle.river_rings.proofs.RowLemmas.{row-more, room_less, whole_more}
use Rattle.river_rings.proofs.rows.RowFeed.put.Goals as goal

pub invariant_of-self : goal.invariant_of-self
invariant_of-self c =
    let w = c.self.inside.width in
    let l : length c.args.row.now ≡ w =
    c.requires.width (subst (λ (s : Sending). 1 ≤ s.id.width) c.self.view_is c.self.invariant.0.some) ∙ sym (ap (λ (s : Sending). s.id.width) c.self.view_is) in
    (whole_more w c.self.inside.end.sent c.args.row.now c.put.new.self.sent c.self.invariant.0 l c.put.ensures.sent, c.put.ensures.most)

pub returns-clause-sent : goal.returns-clause-sent
returns-clause-sent c =
    let w = c.self.inside.width in
    let p = c.self.inside.end in
    let q = c.put.new.self in
    let row = c.args.row.now in
    let l : length row ≡ w = c.requires.width (subst (λ (s : Sending). 1 ≤ s.id.width) c.self.view_is c.self.invariant.0.some)
    ∙ sym (ap (λ (s : Sending). s.id.width) c.self.view_is) in (
      row-more w p.sent row q.sent c.self.invariant.0 l c.put.ensures.sent ∙ ap (λ (s : Sending). s.sent ++ row_item row ∷ []) c.self.view_is,
      subst (λ (s : Sending). q.capacity / w - q.free / w ≤ s.waiting + 1) c.self.view_is
          (room_less w p q c.self.invariant.0.some c.put.ensures.ring.1 (subst (λ n. p.free ≤ q.free + n) l c.put.ensures.free)),
    )
