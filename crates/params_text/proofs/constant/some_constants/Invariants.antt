use Rattle.std.proofs.Common.{◌≡◌, length, map}
use Rattle.text_forms.specs.Parse.{comma_turn}
use Rattle.text_forms.specs.Repeat.{repeated}
use Rattle.streamit_text.specs.Tree.{expression}
use Rattle.params_text.specs.Steps.{constant_at, some_constants_at}
use Rattle.params_text.proofs.constant.some_constants.Given as goal

abbrev pub invariant-items : goal.invariant-items
invariant-items l = repeated (comma_turn (constant_at l.brackets)) (map expression l.list.items) l.reader ≡ some_constants_at l.brackets l.fn.reader

abbrev pub decreases-items : goal.decreases-items
decreases-items l = length l.reader
