use Rattle.rw_local.proofs.HoistJudged.{hoisting_is_judged}
use Rattle.rw_local.proofs.laws.hoisting_is_judged.Goals as goal

pub returns : goal.returns
returns c = hoisting_is_judged
