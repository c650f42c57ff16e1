use Rattle.brooklet_model.proofs.NetsKept.{nets_law}
use Rattle.brooklet_step.proofs.laws.nets_are_kept.Goals as goal

pub returns : goal.returns
returns c = nets_law
