use Rattle.saw_model.proofs.Pieces.{pieces_merge}
use Rattle.saw_model.proofs.laws.pieces_merge.Goals as goal

pub returns : goal.returns
returns c = pieces_merge
