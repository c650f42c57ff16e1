use Rattle.std.proofs.Common.{◌≡◌, length}
use Rattle.text_forms.specs.Parse.{comma_turn, commas}
use Rattle.text_forms.specs.Repeat.{repeated}
use Rattle.river_text.specs.ReadKernels.{kind_number_at}
use Rattle.river_text.proofs.number.some_numbers.Given as goal

abbrev pub invariant-items : goal.invariant-items
invariant-items l = repeated (comma_turn (kind_number_at l.kind)) l.list l.reader ≡ commas (kind_number_at l.kind) l.fn.reader

abbrev pub decreases-items : goal.decreases-items
decreases-items l = length l.reader
