use Rattle.rw_fission.proofs.FissionJudged.{fission_is_judged}
use Rattle.rw_fission.proofs.laws.fission_is_judged.Goals as goal

pub returns : goal.returns
returns c = fission_is_judged
