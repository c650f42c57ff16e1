use Rattle.std.proofs.Common.{◌≡◌, sym, ap, ◌∙◌, true, false}
use Rattle.text_tokens.specs.Tok.{tokens_of}
use Rattle.river_script.specs.Steps.{step_form}
use Rattle.river_script.specs.Reading.{step_at}
use Rattle.river_script.proofs.Wholes.{whole-more}
use Rattle.river_script.proofs.step.whole_step.Goals as goal

left : false ≡ true → ⊥
left e = cc

-- tokens are left
pub returns-then-not-is_at_end : goal.returns-then-not-is_at_end
returns-then-not-is_at_end c =
    whole-more (tokens_of c.args.tokens.now) c.any_step.new.reader (step_form c.in_ok-step.step)
    (ap step_at (sym c.new-reader.ensures) ∙ c.in_ok-step.ensures)
    (λ end. left (sym c.if-not-is_at_end.true ∙ c.is_at_end.ensures.1 end))
