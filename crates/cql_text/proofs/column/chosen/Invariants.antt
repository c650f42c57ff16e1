use Rattle.std.proofs.Common.{◌≡◌, length}
use Rattle.std.specs.Prelude.{map}
use Rattle.text_forms.specs.Parse.{comma_turn}
use Rattle.text_forms.specs.Repeat.{repeated}
use Rattle.cql_text.specs.Reading.{column_at, chosen_at}
use Rattle.cql_text.specs.Tree.{column_of}
use Rattle.cql_text.proofs.column.chosen.Given as goal

abbrev pub invariant-items : goal.invariant-items
invariant-items l = repeated (comma_turn column_at) (map column_of l.list.items) l.reader ≡ chosen_at l.fn.reader

abbrev pub decreases-items : goal.decreases-items
decreases-items l = length l.reader
