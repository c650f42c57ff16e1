use Rattle.cql_text.proofs.Texts as texts
use Rattle.cql_text.proofs.laws.one_program.Goals as goal

pub returns : goal.returns
returns c = texts.one_program
