use Rattle.std.proofs.Common.{◌≡◌, length}
use Rattle.text_forms.specs.Parse.{many_turn, many}
use Rattle.text_forms.specs.Repeat.{repeated}
use Rattle.text_blocks.specs.Parts.{square_at}
use Rattle.saw_text.specs.Blocks.{no_bracket}
use Rattle.saw_text.specs.Expressions.{term_at}
use Rattle.saw_text.specs.View.{expressions}
use Rattle.saw_text.proofs.statement.indexes.Given as goal

abbrev pub invariant-items : goal.invariant-items
invariant-items l = repeated (many_turn no_bracket (square_at term_at l.brackets)) (expressions l.list.items) l.reader ≡ many no_bracket
    (square_at term_at l.brackets) l.fn.reader

abbrev pub decreases-items : goal.decreases-items
decreases-items l = length l.reader
