use Rattle.kern_bags.proofs.Windowed.{latest_are}
use Rattle.kern_bags.proofs.laws.latest_are.Goals as goal

pub returns : goal.returns
returns c = latest_are
