use Rattle.kern_bags.proofs.Copies.{products_are}
use Rattle.kern_bags.proofs.laws.products_are.Goals as goal

pub returns : goal.returns
returns c = products_are
