use Rattle.run_pieces.proofs.Grows.{begun_is_growing}
use Rattle.run_pieces.proofs.laws.begun_is_growing.Goals as goal

pub returns : goal.returns
returns c = begun_is_growing
