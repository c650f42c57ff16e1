use Rattle.kern_changes.proofs.LawProofs.{stand_holds}
use Rattle.kern_changes.proofs.laws.stand_for_one.Goals as goal

pub returns : goal.returns
returns c = stand_holds
