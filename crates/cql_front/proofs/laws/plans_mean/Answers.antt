use Rattle.cql_front.proofs.Fronts.{plans_mean}
use Rattle.cql_front.proofs.laws.plans_mean.Goals as goal

pub returns : goal.returns
returns c = plans_mean
