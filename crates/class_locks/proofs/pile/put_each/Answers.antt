use Rattle.std.proofs.Common.{◌≡◌, rules, sym, ap, ◌∙◌, ◌++◌, ◌∷◌, [], subst, reverse}
use Rattle.class_locks.specs.declared.view.View.{View}
use Rattle.class_locks.specs.Piles.{IsPile, gained}
use Rattle.class_locks.proofs.Piles.{puts, gained_turned}
use Rattle.class_locks.proofs.pile.put_each.Goals as goal

pub put-requires : goal.put-requires
put-requires c =
    let last : c.loop-class.pile.items ≡ c.pop.new.self.items ++ (c.in-Some.class, c.in-Some.cell) ∷ [] = search rules in
    (puts c.loop-class.seat.view c.pop.new.self.items c.loop-class.pile.items c.in-Some.class c.in-Some.cell last c.loop-class.invariant.pile).may

pub loop-class-preserved : goal.loop-class-preserved
loop-class-preserved c =
    let last : c.loop-class.pile.items ≡ c.pop.new.self.items ++ (c.in-Some.class, c.in-Some.cell) ∷ [] = search rules in
    let done = puts c.loop-class.seat.view c.pop.new.self.items c.loop-class.pile.items c.in-Some.class c.in-Some.cell last c.loop-class.invariant.pile in
    let inv = c.loop-class.invariant in
    let put = c.put.ensures.put in
    record {
      lot = c.put.ensures.lot ∙ inv.lot;
      seats = ap (λ (v : View). v.seats) put ∙ inv.seats;
      starts = ap (λ (v : View). v.starts) put ∙ inv.starts;
      takes = ap (λ (v : View). v.takes) put ∙ inv.takes;
      parts = ap (λ (v : View). v.parts) put ∙ inv.parts;
      pile = subst (λ (v : View). IsPile v c.pop.new.self.items) (sym put) done.pile;
      same = search rules;
      claims =
          ap (λ (v : View). v.claims ++ gained (reverse c.pop.new.self.items) v.held) put
          ∙ (done.claims ∙ (ap (λ l. c.loop-class.seat.view.claims ++ l)
          (sym (gained_turned c.pop.new.self.items c.loop-class.pile.items c.in-Some.class c.in-Some.cell c.loop-class.seat.view.held last)) ∙ inv.claims));
    }
