use Rattle.river_pieces.proofs.Whole.{meant_pieces_give_the_whole}
use Rattle.river_pieces.proofs.laws.meant_pieces_give_the_whole.Goals as goal

pub returns : goal.returns
returns c = meant_pieces_give_the_whole
