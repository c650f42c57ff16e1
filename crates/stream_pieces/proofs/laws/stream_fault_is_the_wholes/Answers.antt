use Rattle.stream_pieces.proofs.Faults.{stream_fault_is_the_wholes}
use Rattle.stream_pieces.proofs.laws.stream_fault_is_the_wholes.Goals as goal

pub returns : goal.returns
returns c = stream_fault_is_the_wholes
