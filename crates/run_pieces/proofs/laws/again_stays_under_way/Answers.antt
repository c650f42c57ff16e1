use Rattle.run_pieces.proofs.Driver.{again_stays_under_way}
use Rattle.run_pieces.proofs.laws.again_stays_under_way.Goals as goal

pub returns : goal.returns
returns c = again_stays_under_way
