use Rattle.slow_cql.proofs.Accepted as accepted
use Rattle.slow_cql.proofs.laws.compiled_have_columns.Goals as goal

pub returns : goal.returns
returns c = accepted.accepted_columns
