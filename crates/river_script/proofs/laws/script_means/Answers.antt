use Rattle.river_script.proofs.Steps.{script_means}
use Rattle.river_script.proofs.laws.script_means.Goals as goal

pub returns : goal.returns
returns c = script_means
