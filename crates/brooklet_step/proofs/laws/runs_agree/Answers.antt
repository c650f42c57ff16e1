use Rattle.brooklet_model.proofs.Complete.{runs_law}
use Rattle.brooklet_step.proofs.laws.runs_agree.Goals as goal

pub returns : goal.returns
returns c = runs_law
