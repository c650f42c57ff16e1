use Rattle.river_pieces.proofs.Refused.{one_fault}
use Rattle.river_pieces.proofs.laws.one_fault.Goals as goal

pub returns : goal.returns
returns c = one_fault
