use Rattle.streamit_front.proofs.Accepting.{plans_in_turn}
use Rattle.streamit_front.proofs.laws.plans_in_turn.Goals as goal

pub returns : goal.returns
returns c = plans_in_turn
