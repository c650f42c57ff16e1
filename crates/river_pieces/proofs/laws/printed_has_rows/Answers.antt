use Rattle.river_pieces.proofs.Whole.{printed_has_rows}
use Rattle.river_pieces.proofs.laws.printed_has_rows.Goals as goal

pub returns : goal.returns
returns c = printed_has_rows
