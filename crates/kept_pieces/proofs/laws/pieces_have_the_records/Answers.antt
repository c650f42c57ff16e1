use Rattle.kept_pieces.proofs.Kept.{pieces_have_the_records}
use Rattle.kept_pieces.proofs.laws.pieces_have_the_records.Goals as goal

pub returns : goal.returns
returns c = pieces_have_the_records
