use Rattle.run_pieces.proofs.Done.{runs_tell_faults}
use Rattle.run_pieces.proofs.laws.runs_tell_faults.Goals as goal

pub returns : goal.returns
returns c = runs_tell_faults
