use Rattle.cql_front.proofs.Fronts.{means_what_it_has}
use Rattle.cql_front.proofs.laws.texts_mean_what_they_have.Goals as goal

pub returns : goal.returns
returns c = means_what_it_has
