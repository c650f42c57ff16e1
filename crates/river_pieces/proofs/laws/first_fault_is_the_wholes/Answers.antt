use Rattle.river_pieces.proofs.Refused.{first_fault_is_the_wholes}
use Rattle.river_pieces.proofs.laws.first_fault_is_the_wholes.Goals as goal

pub returns : goal.returns
returns c = first_fault_is_the_wholes
