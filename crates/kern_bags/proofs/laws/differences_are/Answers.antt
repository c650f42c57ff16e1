use Rattle.kern_changes.proofs.Copies.{differences_are}
use Rattle.kern_bags.proofs.laws.differences_are.Goals as goal

pub returns : goal.returns
returns c = differences_are
