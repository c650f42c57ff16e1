use Rattle.std.proofs.Common.{◌≡◌, ◌-◌, drop, ap, sym, ◌∙◌, subst, arith}
use Rattle.kern_rows.specs.Even.{AreEven}
use Rattle.river_base.specs.WideRows.{cut_rows}
use Rattle.kern_rows.proofs.Cuts.{pop-is, even-rest}
use Rattle.kern_rows.proofs.even.EvenRows.drop_first.Goals as goal

pub invariant_of-self : goal.invariant_of-self
invariant_of-self c =
    let r = c.self.inside in
    let some : r.count ≡ 0 → ⊥ = λ z. omega (arith, z) in
    subst (AreEven r.width (r.count - 1)) (sym c.remove.ensures) (even-rest r.width r.count r.values some c.self.invariant)

pub returns-then-self-gt0 : goal.returns-then-self-gt0
returns-then-self-gt0 c =
    let r = c.self.inside in
    let some : r.count ≡ 0 → ⊥ = λ z. omega (arith, z) in
    ap (cut_rows r.width (r.count - 1)) c.remove.ensures
    ∙ sym (ap (drop 1) (pop-is r.width r.count r.values some)) ∙ ap (drop 1) c.self.view_is
