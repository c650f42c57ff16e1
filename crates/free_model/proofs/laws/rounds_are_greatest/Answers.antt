use Rattle.free_model.proofs.Greatest.{rounds_are_greatest}
use Rattle.free_model.proofs.laws.rounds_are_greatest.Goals as goal

pub returns : goal.returns
returns c = rounds_are_greatest
