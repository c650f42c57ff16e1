use Rattle.run_pieces.proofs.Driver.{driver_gives_the_whole}
use Rattle.run_pieces.proofs.laws.driver_gives_the_whole.Goals as goal

pub returns : goal.returns
returns c = driver_gives_the_whole
