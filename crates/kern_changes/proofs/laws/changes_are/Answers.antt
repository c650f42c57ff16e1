use Rattle.kern_changes.proofs.LawProofs.{changes_hold}
use Rattle.kern_changes.proofs.laws.changes_are.Goals as goal

pub returns : goal.returns
returns c = changes_hold
