use Rattle.brooklet_step.proofs.Moved.{step_law}
use Rattle.brooklet_step.proofs.laws.firings_step.Goals as goal

pub returns : goal.returns
returns c = step_law
