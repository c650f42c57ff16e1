use Rattle.brooklet_step.proofs.HeldLaws.{plain_law}
use Rattle.brooklet_step.proofs.laws.plain_queues_hold_typed.Goals as goal

pub returns : goal.returns
returns c = plain_law
