use Rattle.brooklet_model.proofs.BoundedMoves.{steps_law}
use Rattle.brooklet_step.proofs.laws.moves_are_steps.Goals as goal

pub returns : goal.returns
returns c = steps_law
