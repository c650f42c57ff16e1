use Rattle.std.proofs.Common.{◌≡◌, true, false, length, ap, ◌∙◌, arith, rules}
use Rattle.params_model.specs.Judged.{has_none}
use Rattle.params_model.specs.declared.fault.Fault.TheVariants.{Top}
use Rattle.params_model.specs.Making.{demand}
use Rattle.params_build.proofs.Last.{top-none, top-at, has-none, has-some}
use Rattle.params_build.proofs.judge.top.Goals as goal

pub returns-then-count-eq0 : goal.returns-then-count-eq0
returns-then-count-eq0 c = λ sizes. top-none c.args.units.now sizes (search rules)

pub returns-then-is_empty : goal.returns-then-is_empty
returns-then-is_empty c = λ sizes.
    let units = c.args.units.now in
    let d = c.index-units-count.result in
    let none : has_none d.params.items ≡ true = has-none d.params.items (search rules) in
    top-at units sizes d (omega arith) c.index-units-count.is ∙ ap (λ b. demand b (length units) Top) none

pub returns : goal.returns
returns c = λ sizes.
    let units = c.args.units.now in
    let d = c.index-units-count.result in
    let some : has_none d.params.items ≡ false = has-some d.params.items (search rules) in
    top-at units sizes d (omega arith) c.index-units-count.is ∙ ap (λ b. demand b (length units) Top) some
