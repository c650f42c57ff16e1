use Rattle.params_front.proofs.Compiling.{plans_mean}
use Rattle.params_front.proofs.laws.plans_mean.Goals as goal

pub returns : goal.returns
returns c = plans_mean
