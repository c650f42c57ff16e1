use Rattle.std.proofs.Common.{◌≡◌, ◌+◌, ◌-◌, ◌<◌, length, take, true, false, sym, ap, ◌∙◌, arith, rules}
use Rattle.river_base.specs.Name.{name_eq}
use Rattle.params_front.specs.Standing.{adding}
use Rattle.params_front.proofs.Sources.{found-at, passed-at}
use Rattle.params_front.proofs.find.find.Goals as goal

pub returns-then-eq : goal.returns-then-eq
returns-then-eq c =
    let us = c.args.units.now in
    let n = c.args.name.now in
    let i = c.units.i - 1 in
    let within = c.units.invariant.within in
    let lt : c.units.i - 1 < length us = omega (arith, within) in
    let one : c.units.i ≡ c.units.i - 1 + 1 = omega arith in
    let yes : name_eq c.index-units-i.result.name n ≡ true = search rules in (
      lt,
      λ sizes depth zs m u is. sym (c.units.invariant.same sizes depth zs m) ∙ ap (λ j. adding (take j us) sizes depth n zs m) one
          ∙ found-at us i u c.index-units-i.result sizes depth n zs m lt c.index-units-i.is yes is,
    )

pub units-preserved : goal.units-preserved
units-preserved c =
    let us = c.args.units.now in
    let n = c.args.name.now in
    let i = c.units.i - 1 in
    let within = c.units.invariant.within in
    let lt : c.units.i - 1 < length us = omega (arith, within) in
    let one : c.units.i ≡ c.units.i - 1 + 1 = omega arith in
    let no : name_eq c.index-units-i.result.name n ≡ false = search rules in
    record {
      within = omega (arith, within);
      same = λ sizes depth zs m. sym
          (ap (λ j. adding (take j us) sizes depth n zs m) one ∙ passed-at us i c.index-units-i.result sizes depth n zs m lt c.index-units-i.is no)
          ∙ c.units.invariant.same sizes depth zs m;
    }
