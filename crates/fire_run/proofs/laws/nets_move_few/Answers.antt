use Rattle.fire_run.proofs.WholeLemmas.{few_law}
use Rattle.fire_run.proofs.laws.nets_move_few.Goals as goal

pub returns : goal.returns
returns c = few_law
