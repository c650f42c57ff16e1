use Rattle.kern_bags.proofs.Windowed.{contents_are}
use Rattle.kern_bags.proofs.laws.contents_are.Goals as goal

pub returns : goal.returns
returns c = contents_are
