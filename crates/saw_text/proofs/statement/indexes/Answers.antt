use Rattle.std.proofs.Common.{◌∷◌, [], sym, ap, ◌∙◌}
use Rattle.std.specs.Prelude.{not}
use Rattle.std.proofs.lemmas.List.{map-append}
use Rattle.text_forms.specs.Parse.{many_turn}
use Rattle.text_forms.specs.Repeat.{repeated}
use Rattle.text_blocks.specs.Parts.{square_at}
use Rattle.saw_text.specs.Blocks.{no_bracket}
use Rattle.saw_text.specs.Expressions.{term_at}
use Rattle.saw_text.specs.Tree.{expression}
use Rattle.saw_text.specs.View.{expressions}
use Rattle.saw_text.proofs.Lists.{indexes-next}
use Rattle.saw_text.proofs.statement.indexes.Goals as goal

-- one index more
pub items-preserved : goal.items-preserved
items-preserved c =
    ap (λ l. repeated (many_turn no_bracket (square_at term_at c.args.brackets)) l c.square.new.reader)
    (ap expressions c.in_ok-push.ensures.items ∙ map-append expression c.items.list.items (c.in_ok-square.field-0 ∷ []))
    ∙ indexes-next c.args.brackets (expressions c.items.list.items) c.items.reader c.square.new.reader (expression c.in_ok-square.field-0)
    (ap not (sym c.is_at.ensures ∙ c.items-test.true)) c.in_ok-square.ensures
    ∙ c.items.invariant
