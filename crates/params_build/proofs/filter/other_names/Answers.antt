use Rattle.std.proofs.Common.{◌≡◌, not, drop, sym, ap, ◌∙◌, arith, rules, true, drop-cons, suc, ◌∷◌}
use Rattle.params_text.specs.Params.{is_one_of}
use Rattle.params_model.specs.Judged.{judged_then, other_names}
use Rattle.params_model.specs.declared.fault.Fault.TheVariants.{NameTwice}
use Rattle.params_model.specs.Making.{demand}
use Rattle.params_build.proofs.filter.other_names.Goals as goal

pub returns-then-has : goal.returns-then-has
returns-then-has c =
    let ps = c.args.params.now in
    let ns = c.args.names.now in
    let i = c.names.each-index in
    let n = c.each-item.result in
    let yes : is_one_of ps n ≡ true = search rules in
    λ k. sym (c.names.invariant k) ∙ ap (other_names k ps) (drop-cons ns i n (omega arith) ∙ ap (λ x. x ∷ drop (suc i) ns) (sym c.each-item.is))
    ∙ ap (λ b. judged_then (demand (not b) k NameTwice) (other_names k ps (drop (suc i) ns))) yes
