use Rattle.std.proofs.Common.{refl, sym, subst}
use Rattle.std.proofs.lemmas.Result.{IfOk-weaker}
use Rattle.params_text.specs.Program.{steps_of}
use Rattle.params_front.specs.Valued.{IsOver}
use Rattle.params_front.proofs.Valued.{noted-none}
use Rattle.params_front.proofs.bounds.fixed_bounds.Goals as goal

pub returns : goal.returns
returns c =
    let known = c.args.known.now in
    IfOk-weaker c.of_steps.result _ _
    (λ all p. p (λ e r. noted-none e (steps_of c.args.steps.now)) known (subst (λ vs. IsOver vs known known) (sym c.new-vars.ensures) refl))
    c.of_steps.ensures.valued
