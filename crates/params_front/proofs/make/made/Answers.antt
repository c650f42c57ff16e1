use Rattle.std.proofs.Common.{◌≡◌, ◌+◌, ◌-◌, ◌<◌, length, take, [], Err, sym, subst, arith, rules}
use Rattle.params_model.specs.Making.{nothing_made, last_made}
use Rattle.params_print.specs.Heads.{name_written}
use Rattle.params_front.specs.Standing.{sources}
use Rattle.params_front.specs.Written.{MakesText}
use Rattle.params_front.proofs.Bodies.{top-made, top-told}
use Rattle.params_front.proofs.Sources.{values-above, values-at}
use Rattle.params_front.proofs.make.made.Goals as goal

pub make-requires-clause-above : goal.make-requires-clause-above
make-requires-clause-above c = values-above c.args.units.now (length c.args.units.now - 1) c.requires

pub make-requires-clause-unit : goal.make-requires-clause-unit
make-requires-clause-unit c =
    let lt : (length c.args.units.now - 1) < length c.args.units.now = omega arith in
    values-at c.args.units.now (length c.args.units.now - 1) c.index-units-last.result lt c.index-units-last.is c.requires

pub returns-in_err-make : goal.returns-in_err-make
returns-in_err-make c =
    let us = c.args.units.now in
    let i = (length c.args.units.now - 1) in
    let len : (length c.args.units.now - 1) + 1 ≡ length us = omega arith in
    let there : length (take (length c.args.units.now - 1) us) ≡ (length c.args.units.now - 1) = search rules in
    let none : c.new.result ≡ [] = search rules in
    let is : c.from_residual.result ≡ Err c.in_err-make.field-0.0 = search rules in
    subst (λ r. MakesText r (last_made (sources us c.args.sizes.now))) (sym is)
    (top-told us i (length (take i us)) c.index-units-last.result c.args.sizes.now c.new.result c.in_err-make.field-0.0 len c.index-units-last.is there none
    (c.in_err-make.ensures nothing_made c.new-making.ensures))

pub returns : goal.returns
returns c =
    let us = c.args.units.now in
    let i = (length c.args.units.now - 1) in
    let len : (length c.args.units.now - 1) + 1 ≡ length us = omega arith in
    let there : length (take (length c.args.units.now - 1) us) ≡ (length c.args.units.now - 1) = search rules in
    let none : c.new.result ≡ [] = search rules in
    let r = c.in_ok-make.ensures nothing_made c.new-making.ensures in (
      r.0,
      top-made us i (length (take i us)) c.index-units-last.result c.args.sizes.now c.new.result
          (name_written c.in_ok-make.field-0) r.0 len c.index-units-last.is there none r.1,
      r.2.text,
      r.2.from,
    )
