use Rattle.stream_pieces.proofs.Files.{slices_of_bytes}
use Rattle.stream_pieces.proofs.laws.slices_of_bytes.Goals as goal

pub returns : goal.returns
returns c = slices_of_bytes
