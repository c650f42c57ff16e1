use Rattle.run_pieces.proofs.Done.{runs_are_done}
use Rattle.run_pieces.proofs.laws.runs_are_done.Goals as goal

pub returns : goal.returns
returns c = runs_are_done
