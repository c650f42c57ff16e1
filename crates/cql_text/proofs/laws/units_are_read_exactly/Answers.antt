use Rattle.cql_text.proofs.Texts as texts
use Rattle.cql_text.proofs.laws.units_are_read_exactly.Goals as goal

pub returns : goal.returns
returns c = texts.reads_what_stands
