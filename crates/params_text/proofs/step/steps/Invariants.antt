use Rattle.std.proofs.Common.{◌≡◌, length, map}
use Rattle.text_forms.specs.Parse.{many_turn, many}
use Rattle.text_forms.specs.Repeat.{repeated}
use Rattle.params_text.specs.Program.{step_of}
use Rattle.params_text.specs.Reading.{at_join, step_at}
use Rattle.params_text.proofs.step.steps.Given as goal

abbrev pub invariant-items : goal.invariant-items
invariant-items l = repeated (many_turn at_join (step_at l.brackets)) (map step_of l.list.items) l.reader ≡ many at_join (step_at l.brackets) l.fn.reader

abbrev pub decreases-items : goal.decreases-items
decreases-items l = length l.reader
