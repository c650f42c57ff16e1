use Rattle.river_script.proofs.Judging.{script_is_judged}
use Rattle.river_script.proofs.laws.script_is_judged.Goals as goal

pub returns : goal.returns
returns c = script_is_judged
