use Rattle.saw_model.proofs.InTurn.{plans_in_turn}
use Rattle.saw_model.proofs.laws.plans_in_turn.Goals as goal

pub returns : goal.returns
returns c = plans_in_turn
