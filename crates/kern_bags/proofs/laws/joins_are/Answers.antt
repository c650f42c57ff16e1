use Rattle.kern_bags.proofs.JoinLaws.{joins_are}
use Rattle.kern_bags.proofs.laws.joins_are.Goals as goal

pub returns : goal.returns
returns c = joins_are
