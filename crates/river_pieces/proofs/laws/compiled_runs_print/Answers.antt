use Rattle.river_pieces.proofs.Compiled.{compiled_runs_print}
use Rattle.river_pieces.proofs.laws.compiled_runs_print.Goals as goal

pub returns : goal.returns
returns c = compiled_runs_print
