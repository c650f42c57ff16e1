use Rattle.rw_local.proofs.FuseJudged.{fusion_is_judged}
use Rattle.rw_local.proofs.laws.fusion_is_judged.Goals as goal

pub returns : goal.returns
returns c = fusion_is_judged
