use Rattle.params_front.proofs.Compiling.{plans_in_turn}
use Rattle.params_front.proofs.laws.plans_in_turn.Goals as goal

pub returns : goal.returns
returns c = plans_in_turn
