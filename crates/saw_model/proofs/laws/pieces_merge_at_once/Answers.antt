use Rattle.saw_model.proofs.Pieces.{pieces_merge_at_once}
use Rattle.saw_model.proofs.laws.pieces_merge_at_once.Goals as goal

pub returns : goal.returns
returns c = pieces_merge_at_once
