use Rattle.std.proofs.Common.{ap, ◌∙◌, rules}
use Rattle.text_forms.specs.Parse.{many_turn}
use Rattle.text_forms.specs.Repeat.{repeated}
use Rattle.streamit_text.specs.Reading.{no_add, add_at}
use Rattle.streamit_text.proofs.Adding.{adds-next, add-shortens}
use Rattle.streamit_text.proofs.names.more_adds.Goals as goal

pub items-preserved : goal.items-preserved
items-preserved c =
    ap (λ l. repeated (many_turn no_add (add_at c.args.brackets)) l c.add.new.reader) c.in_ok-push.ensures.items
    ∙ adds-next c.args.brackets c.items.names.items c.items.reader c.add.new.reader c.in_ok-add.field-0 (search rules) c.in_ok-add.ensures
    ∙ c.items.invariant

pub items-smaller : goal.items-smaller
items-smaller c = add-shortens c.args.brackets c.items.reader c.add.new.reader c.in_ok-add.field-0 c.in_ok-add.ensures
