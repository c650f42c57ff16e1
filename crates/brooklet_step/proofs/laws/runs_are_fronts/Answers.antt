use Rattle.brooklet_model.proofs.Fronts.{runs_fronts_law}
use Rattle.brooklet_step.proofs.laws.runs_are_fronts.Goals as goal

pub returns : goal.returns
returns c = runs_fronts_law
