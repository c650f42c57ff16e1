use Rattle.std.proofs.Common.{List, ℤ, sym, subst}
use Rattle.river_rings.specs.Rows.{AreWhole}
use Rattle.river_rings.proofs.rows.RowFeed.flush.Goals as goal

pub invariant_of-self : goal.invariant_of-self
invariant_of-self c = (
  subst (λ (l : List ℤ). AreWhole c.self.inside.width l) (sym c.flush.ensures.looked.1) c.self.invariant.0,
  c.flush.ensures.most,
)
