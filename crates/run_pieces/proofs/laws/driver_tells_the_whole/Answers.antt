use Rattle.run_pieces.proofs.Tells.{driver_tells_the_whole}
use Rattle.run_pieces.proofs.laws.driver_tells_the_whole.Goals as goal

pub returns : goal.returns
returns c = driver_tells_the_whole
