use Rattle.std.proofs.Common.{◌≡◌, length}
use Rattle.text_forms.specs.Parse.{comma_turn}
use Rattle.text_forms.specs.Repeat.{repeated}
use Rattle.work_code.specs.Term.{terms}
use Rattle.river_text.specs.Bodies.{some_terms_at}
use Rattle.river_text.specs.Expressions.{term_at}
use Rattle.river_text.proofs.term.some_exprs.Given as goal

abbrev pub invariant-items : goal.invariant-items
invariant-items l = repeated (comma_turn (term_at l.brackets)) (terms l.list) l.reader ≡ some_terms_at l.brackets l.fn.reader

abbrev pub decreases-items : goal.decreases-items
decreases-items l = length l.reader
