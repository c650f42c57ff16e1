use Rattle.std.proofs.Common.{◌≡◌, length}
use Rattle.std.specs.Prelude.{map}
use Rattle.text_forms.specs.Parse.{comma_turn}
use Rattle.text_forms.specs.Repeat.{repeated}
use Rattle.cql_text.specs.Reading.{source_at, sources_at}
use Rattle.cql_text.specs.Tree.{source_of}
use Rattle.cql_text.proofs.window.sources.Given as goal

abbrev pub invariant-items : goal.invariant-items
invariant-items l = repeated (comma_turn source_at) (map source_of l.list.items) l.reader ≡ sources_at l.fn.reader

abbrev pub decreases-items : goal.decreases-items
decreases-items l = length l.reader
