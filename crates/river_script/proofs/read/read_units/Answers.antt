use Rattle.std.proofs.Common.{◌+◌, [], ◌∷◌, drop, sym, ap, ◌∙◌}
use Rattle.std.specs.Prelude.{map}
use Rattle.std.proofs.lemmas.List.{map-append}
use Rattle.text_tokens.specs.Cut.{unit_tokens}
use Rattle.text_forms.specs.AllUnits.{or_syntax}
use Rattle.river_script.specs.Reading.{read_steps}
use Rattle.river_script.specs.Steps.{step_form, step_forms}
use Rattle.river_script.proofs.Units.{steps-next, steps-bad, steps-end}
use Rattle.river_script.proofs.read.read_units.Goals as goal

-- a unit that is no step
pub returns-in-Err-Syntax : goal.returns-in-Err-Syntax
returns-in-Err-Syntax c =
    let parts = c.as_slice-parts.result.now in
    ap or_syntax
    (ap (read_steps 1 []) (sym c.as_slice-parts.ensures)
    ∙ sym c.items.invariant
    ∙ steps-bad (c.items.i + 1) (step_forms c.items.steps) parts c.items.i _ c.items-test.true (rw c.in-Err-Syntax.field-0-is at c.in-Err-Syntax.ensures))

-- one step more
pub items-preserved : goal.items-preserved
items-preserved c =
    let parts = c.as_slice-parts.result.now in
    ap (λ l. read_steps (c.items.i + 1 + 1) l (map unit_tokens (drop (c.items.i + 1) parts)))
    (ap step_forms c.in_ok-push-in-Ok.ensures.ok ∙ map-append step_form c.items.steps (c.in-Ok.step ∷ []))
    ∙ steps-next (c.items.i + 1) (step_forms c.items.steps) parts c.items.i _ (step_form c.in-Ok.step) c.items-test.true c.in-Ok.ensures
    ∙ c.items.invariant

pub returns : goal.returns
returns c =
    ap or_syntax
    (ap (read_steps 1 []) (sym c.as_slice-parts.ensures)
    ∙ sym c.items.invariant
    ∙ steps-end (c.items.i + 1) (step_forms c.items.steps) c.as_slice-parts.result.now c.items.i c.items-test.false)
