use Rattle.river_script.proofs.Steps.{script_law}
use Rattle.river_script.proofs.laws.script_keeps.Goals as goal

pub returns : goal.returns
returns c = script_law
