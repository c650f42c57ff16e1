use Rattle.cql_pieces.proofs.Numbers as numbers
use Rattle.cql_pieces.proofs.laws.texts_have_numbers.Goals as goal

pub returns : goal.returns
returns c = numbers.texts_have_numbers
