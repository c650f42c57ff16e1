use Rattle.river_pieces.proofs.Refused.{fault_or_meaning}
use Rattle.river_pieces.proofs.laws.fault_or_meaning.Goals as goal

pub returns : goal.returns
returns c = fault_or_meaning
