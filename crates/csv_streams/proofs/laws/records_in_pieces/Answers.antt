use Rattle.csv_streams.proofs.FilePieces.{records_in_pieces}
use Rattle.csv_streams.proofs.laws.records_in_pieces.Goals as goal

pub returns : goal.returns
returns c = records_in_pieces
