use Rattle.std.proofs.Common.{◌-◌, ◌∷◌, drop, ap, sym, ◌∙◌, subst}
use Rattle.kern_rows.specs.Even.{AreEven}
use Rattle.river_base.specs.WideRows.{cut_rows}
use Rattle.kern_rows.proofs.Cuts.{pop-is, even-rest}
use Rattle.kern_rows.proofs.even.EvenRows.pop.Goals as goal

pub invariant_of-self : goal.invariant_of-self
invariant_of-self c =
    let r = c.self.inside in
    subst (AreEven r.width (r.count - 1)) (sym c.remove.ensures) (even-rest r.width r.count r.values c.if-self-eq0.false c.self.invariant)

pub returns : goal.returns
returns c =
    let r = c.self.inside in
    sym c.self.view_is ∙ pop-is r.width r.count r.values c.if-self-eq0.false
    ∙ ap (λ row. row ∷ cut_rows r.width (r.count - 1) (drop r.width r.values)) (sym (c.from_slice-row.ensures ∙ c.first.ensures))
    ∙ ap (λ vs. c.from_slice-row.result ∷ cut_rows r.width (r.count - 1) vs) (sym c.remove.ensures)
