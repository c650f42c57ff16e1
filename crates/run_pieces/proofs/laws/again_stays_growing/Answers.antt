use Rattle.run_pieces.proofs.Grows.{again_stays_growing}
use Rattle.run_pieces.proofs.laws.again_stays_growing.Goals as goal

pub returns : goal.returns
returns c = again_stays_growing
