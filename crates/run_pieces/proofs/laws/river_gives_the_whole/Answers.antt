use Rattle.run_pieces.proofs.Whole.{river_gives_the_whole}
use Rattle.run_pieces.proofs.laws.river_gives_the_whole.Goals as goal

pub returns : goal.returns
returns c = river_gives_the_whole
