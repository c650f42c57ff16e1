use Rattle.std.proofs.Common.{◌≡◌, ◌⊎◌, inl, inr, ◌+◌, ◌++◌, ap, ◌∙◌, arith}
use Rattle.std.proofs.lemmas.List.{append-nil}
use Rattle.std.proofs.lemmas.Bool.Decides.{nat_tests}
use Rattle.river_base.specs.WideRows.{cut_rows}
use Rattle.kern_rows.proofs.Cuts.{both-are}
use Rattle.kern_rows.proofs.even.EvenRows.take_from.Goals.{then-self-eq0, else-self-eq0}
use Rattle.kern_rows.proofs.even.EvenRows.take_from.Goals as goal

pub returns-in_ok-extend-clause-ok : goal.returns-in_ok-extend-clause-ok
returns-in_ok-extend-clause-ok c =
    let r = c.self.inside in
    let o = c.other.inside in
    let t = c.if-self-other.true in
    let wide : (r.count ≡ 0) ⊎ (r.width ≡ o.width) = elim c.if-self-eq0.branch [
      | then-self-eq0 w ↦ inl w.if-self-eq0.true
      | else-self-eq0 w ↦ inr (let v = w.value-is in grind (arith, nat_tests, v, t))
    ] in
    ap (λ l. cut_rows o.width (r.count + o.count) c.extend.new.self ++ l) c.clear.ensures
    ∙ append-nil (cut_rows o.width (r.count + o.count) c.extend.new.self)
    ∙ both-are r.width o.width r.count o.count r.values o.values c.extend.new.self wide c.self.invariant c.other.invariant
    (c.in_ok-extend.ensures.ok ∙ ap (λ l. r.values ++ l) c.all.ensures)
    ∙ ap (λ l. l ++ cut_rows o.width o.count o.values) c.self.view_is ∙ ap (λ l. c.args.self.now ++ l) c.other.view_is
