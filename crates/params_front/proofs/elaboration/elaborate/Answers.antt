use Rattle.std.proofs.Common.{rules}
use Rattle.std.proofs.lemmas.Result.{IfOk-weaker}
use Rattle.params_text.specs.Program.{program_of}
use Rattle.params_front.specs.declared.program.Elaborated.{Elaborated}
use Rattle.params_front.specs.Meaning.{Elaborates, StandsForMade, elaboration}
use Rattle.params_front.proofs.Fronts.{written-stands}
use Rattle.params_front.proofs.elaboration.elaborate.Goals as goal

-- the text that was written stands for what is made
pub returns-in-Ok-clause-plain : goal.returns-in-Ok-clause-plain
unfolding elaboration
returns-in-Ok-clause-plain c =
    IfOk-weaker c.elaborate_tokens.result (Elaborates (elaboration c.args.text.now)) (λ e. StandsForMade (elaboration c.args.text.now) e.plain)
    (λ (e : Elaborated) h. written-stands c.args.text.now (program_of e.tree) e.plain e.from h) (search rules)
