use Rattle.std.proofs.Common.{suc, sym, ap, ◌∙◌, subst, add-one}
use Rattle.params_text.specs.Program.{unit_forms}
use Rattle.params_model.specs.Judged.{units_judged}
use Rattle.params_build.specs.Judging.{IsWhyRefused, refused_in}
use Rattle.params_build.proofs.Judging.{judging-next, judging-refused}
use Rattle.params_build.proofs.judge.each_unit.Goals as goal

pub units-preserved : goal.units-preserved
units-preserved c = λ us h.
    let units = c.args.units.now in
    let i = c.units.i in
    judging-next (units_judged 1 us
    (unit_forms units)) i units c.index-units-i.result c.units.above c.unit_and_name.new.above c.units-test.true c.index-units-i.is (c.units.invariant us h)
    (λ above k. c.in-Ok.ensures.judged (suc i) above k) (λ above k. c.in-Ok.ensures.known above k)

pub returns-in-Err : goal.returns-in-Err
returns-in-Err c = λ us h.
    let units = c.args.units.now in
    let i = c.units.i in
    let whole = units_judged 1 us (unit_forms units) in
    subst (IsWhyRefused whole) (sym (c.refused_in.ensures ∙ ap (λ k. refused_in k c.in-Err.why) (add-one i)))
    (judging-refused whole i units c.index-units-i.result c.units.above c.in-Err.why c.units-test.true c.index-units-i.is (c.units.invariant us h)
    (λ above k. c.in-Err.ensures.judged (suc i) above k))
