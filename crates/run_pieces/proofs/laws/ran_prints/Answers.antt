use Rattle.run_pieces.proofs.Ran.{ran_prints}
use Rattle.run_pieces.proofs.laws.ran_prints.Goals as goal

pub returns : goal.returns
returns c = ran_prints
