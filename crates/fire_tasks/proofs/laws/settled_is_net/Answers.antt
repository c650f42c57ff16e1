use Rattle.fire_tasks.proofs.NetLemmas.{settled_law}
use Rattle.fire_tasks.proofs.laws.settled_is_net.Goals as goal

pub returns : goal.returns
returns c = settled_law
