use Rattle.streamit_front.proofs.Fronts.{plans_mean}
use Rattle.streamit_front.proofs.laws.plans_mean.Goals as goal

pub returns : goal.returns
returns c = plans_mean
