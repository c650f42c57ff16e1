use Rattle.fire_run.proofs.WholeLemmas.{whole_law}
use Rattle.fire_run.proofs.laws.idle_net_is_whole.Goals as goal

pub returns : goal.returns
returns c = whole_law
