use Rattle.kern_bags.proofs.Copies.{ascend}
use Rattle.kern_bags.proofs.laws.relations_ascend.Goals as goal

pub returns : goal.returns
returns c = ascend
