use Rattle.run_pieces.proofs.Grows.{driver_gives_the_grown}
use Rattle.run_pieces.proofs.laws.driver_gives_the_grown.Goals as goal

pub returns : goal.returns
returns c = driver_gives_the_grown
