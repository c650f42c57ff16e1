use Rattle.kern_bags.proofs.Copies.{streamers_are}
use Rattle.kern_bags.proofs.laws.streamers_are.Goals as goal

pub returns : goal.returns
returns c = streamers_are
