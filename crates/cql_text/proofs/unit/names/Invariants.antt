use Rattle.std.proofs.Common.{◌≡◌, length}
use Rattle.text_forms.specs.Parse.{comma_turn}
use Rattle.text_forms.specs.Repeat.{repeated}
use Rattle.cql_text.specs.Reading.{names_at}
use Rattle.cql_text.specs.Words.{plain_at}
use Rattle.cql_text.proofs.unit.names.Given as goal

abbrev pub invariant-items : goal.invariant-items
invariant-items l = repeated (comma_turn plain_at) (l.list.items) l.reader ≡ names_at l.fn.reader

abbrev pub decreases-items : goal.decreases-items
decreases-items l = length l.reader
