use Rattle.run_pieces.proofs.Grows.{driver_keeps_the_front}
use Rattle.run_pieces.proofs.laws.driver_keeps_the_front.Goals as goal

pub returns : goal.returns
returns c = driver_keeps_the_front
