use Rattle.run_pieces.proofs.Ran.{runs_print}
use Rattle.run_pieces.proofs.laws.runs_print.Goals as goal

pub returns : goal.returns
returns c = runs_print
