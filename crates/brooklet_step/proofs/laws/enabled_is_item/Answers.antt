use Rattle.brooklet_step.proofs.ReadLemmas.{enabled_law}
use Rattle.brooklet_step.proofs.laws.enabled_is_item.Goals as goal

pub returns : goal.returns
returns c = enabled_law
