use Rattle.brooklet_model.proofs.FewMoves.{few_law}
use Rattle.brooklet_step.proofs.laws.moves_are_few.Goals as goal

pub returns : goal.returns
returns c = few_law
