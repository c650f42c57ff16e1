use Rattle.brooklet_model.proofs.BoundedMoves.{some_move_law}
use Rattle.brooklet_step.proofs.laws.some_move.Goals as goal

pub returns : goal.returns
returns c = some_move_law
