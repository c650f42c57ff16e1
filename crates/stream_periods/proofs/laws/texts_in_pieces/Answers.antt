use Rattle.stream_periods.proofs.Texts.{texts_in_pieces}
use Rattle.stream_periods.proofs.laws.texts_in_pieces.Goals as goal

pub returns : goal.returns
returns c = texts_in_pieces
