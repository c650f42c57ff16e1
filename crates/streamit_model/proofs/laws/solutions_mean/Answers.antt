use Rattle.streamit_model.proofs.Solved as solved
use Rattle.streamit_model.proofs.laws.solutions_mean.Goals as goal

pub returns : goal.returns
returns c = solved.solutions_mean
