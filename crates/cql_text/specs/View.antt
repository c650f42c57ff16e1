-- What the code's parts of units stand for.
use Rattle.std.specs.Prelude.{map}
use Rattle.cql_text.specs.Grammar.{Behind, Selected}
use Rattle.cql_text.specs.Tree.{UnitForm, Register, AQuery, columns_of, source_of, condition_of, query_of}
use Rattle.cql_text.specs.declared.tree.Query as code_query
use Rattle.cql_text.specs.declared.tree.Stream as code_stream
use Rattle.cql_text.specs.declared.unit.Behind as code_behind
use Rattle.cql_text.specs.declared.unit.Selected as code_selected

abbrev pub behind_of : code_behind.Behind → Behind
behind_of b = (map source_of b.items.items, condition_of b.condition)

abbrev pub selected_of : code_selected.Selected → Selected
selected_of s = (s.kind, (columns_of s.columns, behind_of s.behind))

abbrev pub query_unit : code_query.Query → UnitForm
query_unit q = AQuery (query_of q)

abbrev pub stream_unit : code_stream.Stream → UnitForm
stream_unit s = Register s.name s.fields.items
