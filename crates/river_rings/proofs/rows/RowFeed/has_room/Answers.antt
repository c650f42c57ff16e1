use Rattle.std.proofs.Common.{List, ℤ, sym, subst}
use Rattle.river_rings.specs.Rows.{AreWhole}
use Rattle.river_rings.proofs.RowLemmas.{room_yes}
use Rattle.river_rings.proofs.rows.RowFeed.has_room.Goals as goal

pub invariant_of-self : goal.invariant_of-self
invariant_of-self c = (
  subst (λ (l : List ℤ). AreWhole c.self.inside.width l) (sym c.has_slots.ensures.looked.1) c.self.invariant.0,
  c.has_slots.ensures.most,
)

pub returns-clause-yes : goal.returns-clause-yes
returns-clause-yes c = λ t. room_yes c.self.inside.width c.has_slots.new.self c.self.invariant.0.some c.has_slots.ensures.most (c.has_slots.ensures.yes t)
