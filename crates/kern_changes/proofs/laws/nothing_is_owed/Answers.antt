use Rattle.kern_changes.proofs.LawProofs.{nothing_holds}
use Rattle.kern_changes.proofs.laws.nothing_is_owed.Goals as goal

pub returns : goal.returns
returns c = nothing_holds
