use Rattle.fire_tasks.proofs.Stepping.{moves_law}
use Rattle.fire_tasks.proofs.laws.moves_join.Goals as goal

pub returns : goal.returns
returns c = moves_law
