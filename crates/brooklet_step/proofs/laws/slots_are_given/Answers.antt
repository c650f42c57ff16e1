use Rattle.brooklet_step.proofs.Worked.{slots_law}
use Rattle.brooklet_step.proofs.laws.slots_are_given.Goals as goal

pub returns : goal.returns
returns c = slots_law
