use Rattle.std.proofs.Common.{◌+◌, drop, sym, ap, ◌∙◌}
use Rattle.std.specs.Prelude.{map}
use Rattle.text_tokens.specs.Cut.{unit_tokens}
use Rattle.text_forms.specs.AllUnits.{or_syntax}
use Rattle.river_text.specs.Entries.{entry_form, text_form}
use Rattle.river_text.specs.Plans.{next_place}
use Rattle.river_text.specs.ReadPlans.{read_plan}
use Rattle.river_text.proofs.Loops.{plan-next, plan-bad, plan-end}
use Rattle.river_text.proofs.read.add_units.Goals as goal

-- a unit that is not in the grammar
pub returns-in-Err-Syntax : goal.returns-in-Err-Syntax
returns-in-Err-Syntax c =
    ap or_syntax
    (sym c.items.invariant
    ∙ plan-bad c.items.place (c.items.i + 1) (text_form c.items.text) c.args.parts.now c.items.i _ c.items-test.true
    (rw c.in-Err-Syntax.field-0-is at c.in-Err-Syntax.ensures))

-- one entry more
pub items-preserved : goal.items-preserved
items-preserved c =
    let parts = c.args.parts.now in
    ap (λ place. read_plan place (c.items.i + 1 + 1) (text_form c.add_to.new.text) (map unit_tokens (drop (c.items.i + 1) parts))) c.next_place-place.ensures
    ∙ ap (λ text. read_plan (next_place c.items.place (entry_form c.in-Ok.entry)) (c.items.i + 1 + 1) text
    (map unit_tokens (drop (c.items.i + 1) parts))) c.in_ok-add_to-in-Ok.ensures
    ∙ plan-next c.items.place (c.items.i + 1) (text_form c.items.text) parts c.items.i _ (entry_form c.in-Ok.entry) c.items-test.true c.in-Ok.ensures
    ∙ c.items.invariant

pub returns : goal.returns
returns c =
    ap or_syntax
    (sym c.items.invariant
    ∙ plan-end c.items.place (c.items.i + 1) (text_form c.items.text) c.args.parts.now c.items.i c.items-test.false)
