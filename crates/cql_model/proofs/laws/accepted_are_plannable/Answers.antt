use Rattle.cql_model.proofs.Faultless as faultless
use Rattle.cql_model.proofs.Judged as judged
use Rattle.cql_model.proofs.laws.accepted_are_plannable.Goals as goal

pub returns : goal.returns
returns c = record { accepted = judged.accepted_plannable; faultless = faultless.faultless_plannable }
