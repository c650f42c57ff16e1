use Rattle.cql_model.proofs.Accepted as accepted
use Rattle.cql_model.proofs.laws.accepted_mean.Goals as goal

pub returns : goal.returns
returns c = record { valid = accepted.accepted_are_valid; means = accepted.accepted_mean }
