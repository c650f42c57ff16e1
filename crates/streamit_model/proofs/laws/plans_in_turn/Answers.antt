use Rattle.streamit_model.proofs.InTurn as turn
use Rattle.streamit_model.proofs.laws.plans_in_turn.Goals as goal

pub returns : goal.returns
returns c = turn.plans_in_turn
