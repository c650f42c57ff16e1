use Rattle.river_pieces.proofs.Whole.{grown_gives_the_whole}
use Rattle.river_pieces.proofs.laws.grown_gives_the_whole.Goals as goal

pub returns : goal.returns
returns c = grown_gives_the_whole
