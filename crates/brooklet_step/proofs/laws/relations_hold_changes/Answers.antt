use Rattle.brooklet_step.proofs.HeldLaws.{relation_law}
use Rattle.brooklet_step.proofs.laws.relations_hold_changes.Goals as goal

pub returns : goal.returns
returns c = relation_law
