use Rattle.kern_bags.proofs.Copies.{selections_are}
use Rattle.kern_bags.proofs.laws.selections_are.Goals as goal

pub returns : goal.returns
returns c = selections_are
