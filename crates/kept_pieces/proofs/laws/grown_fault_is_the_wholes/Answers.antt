use Rattle.kept_pieces.proofs.Kept.{grown_fault_is_the_wholes}
use Rattle.kept_pieces.proofs.laws.grown_fault_is_the_wholes.Goals as goal

pub returns : goal.returns
returns c = grown_fault_is_the_wholes
