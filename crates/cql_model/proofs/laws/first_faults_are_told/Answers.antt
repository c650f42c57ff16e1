use Rattle.cql_model.proofs.Judged as judged
use Rattle.cql_model.proofs.laws.first_faults_are_told.Goals as goal

pub returns : goal.returns
returns c = record { refused = judged.refusals_are; accepted = judged.accepted_are }
