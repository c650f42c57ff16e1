use Rattle.kern_bags.proofs.Copies.{projections_are}
use Rattle.kern_bags.proofs.laws.projections_are.Goals as goal

pub returns : goal.returns
returns c = projections_are
