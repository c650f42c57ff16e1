use Rattle.cql_model.proofs.Front as front
use Rattle.cql_model.proofs.laws.plans_mean.Goals as goal

pub returns : goal.returns
returns c = front.plans_mean
