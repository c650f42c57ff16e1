use Rattle.brooklet_model.proofs.FewRounds.{rounds_law}
use Rattle.brooklet_step.proofs.laws.rounds_are_few.Goals as goal

pub returns : goal.returns
returns c = rounds_law
