use Rattle.brooklet_step.proofs.Moved.{fit_law}
use Rattle.brooklet_step.proofs.laws.fit_states_stand.Goals as goal

pub returns : goal.returns
returns c = fit_law
