use Rattle.std.proofs.Common.{◌∷◌, pos, refl, sym, subst}
use Rattle.std.proofs.lemmas.Result.{IfOk-weaker}
use Rattle.params_text.specs.Program.{steps_of}
use Rattle.params_front.specs.Valued.{IsOver, AreNoted}
use Rattle.params_front.proofs.Valued.{noted-all}
use Rattle.params_front.proofs.bounds.entered_bounds.Goals as goal

pub returns : goal.returns
returns c =
    let known = c.args.known.now in
    let n = c.args.name in
    let ss = steps_of c.args.steps.now in
    IfOk-weaker c.within.result _ _
    (λ all p v. p
    (λ w e r. subst (λ x. AreNoted ((n, pos w) ∷ x) ss c.args.noted.now) (sym (subst (λ vs. IsOver vs known e) c.new-vars.ensures r))
    (noted-all ((n, pos w) ∷ known) ss c.args.noted.now (c.requires.noted w)))
    v known (subst (λ vs. IsOver vs known known) (sym c.new-vars.ensures) refl))
    c.within.ensures.valued
