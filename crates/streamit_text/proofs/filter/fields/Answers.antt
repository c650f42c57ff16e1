use Rattle.std.proofs.Common.{ap, ◌∙◌, rules}
use Rattle.text_forms.specs.Parse.{many_turn}
use Rattle.text_forms.specs.Repeat.{repeated}
use Rattle.streamit_text.specs.Reading.{no_field, field_at}
use Rattle.streamit_text.proofs.FieldSteps.{fields-next, field-shortens}
use Rattle.streamit_text.proofs.filter.fields.Goals as goal

pub items-preserved : goal.items-preserved
items-preserved c =
    ap (λ l. repeated (many_turn no_field field_at) l c.field.new.reader) c.in_ok-push.ensures.items
    ∙ fields-next c.items.names.items c.items.reader c.field.new.reader c.in_ok-field.field-0 (search rules) c.in_ok-field.ensures
    ∙ c.items.invariant

pub items-smaller : goal.items-smaller
items-smaller c = field-shortens c.items.reader c.field.new.reader c.in_ok-field.field-0 c.in_ok-field.ensures
