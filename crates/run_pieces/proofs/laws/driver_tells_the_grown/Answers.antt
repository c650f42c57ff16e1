use Rattle.run_pieces.proofs.Grows.{driver_tells_the_grown}
use Rattle.run_pieces.proofs.laws.driver_tells_the_grown.Goals as goal

pub returns : goal.returns
returns c = driver_tells_the_grown
