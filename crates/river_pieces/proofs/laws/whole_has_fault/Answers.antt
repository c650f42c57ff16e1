use Rattle.river_pieces.proofs.Refused.{whole_has_fault}
use Rattle.river_pieces.proofs.laws.whole_has_fault.Goals as goal

pub returns : goal.returns
returns c = whole_has_fault
