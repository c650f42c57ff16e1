use Rattle.csv_streams.proofs.FilePieces.{rows_in_pieces}
use Rattle.csv_streams.proofs.laws.rows_in_pieces.Goals as goal

pub returns : goal.returns
returns c = rows_in_pieces
