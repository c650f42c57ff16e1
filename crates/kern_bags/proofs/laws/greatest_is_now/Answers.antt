use Rattle.kern_bags.proofs.Windowed.{greatest_is_now}
use Rattle.kern_bags.proofs.laws.greatest_is_now.Goals as goal

pub returns : goal.returns
returns c = greatest_is_now
