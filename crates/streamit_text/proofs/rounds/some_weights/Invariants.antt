use Rattle.std.proofs.Common.{◌≡◌, length}
use Rattle.text_forms.specs.Parse.{comma_turn}
use Rattle.text_forms.specs.Repeat.{repeated}
use Rattle.streamit_text.specs.Reading.{weight_at, some_weights_at}
use Rattle.streamit_text.proofs.rounds.some_weights.Given as goal

abbrev pub invariant-items : goal.invariant-items
invariant-items l = repeated (comma_turn weight_at) l.list.items l.reader ≡ some_weights_at l.fn.reader

abbrev pub decreases-items : goal.decreases-items
decreases-items l = length l.reader
