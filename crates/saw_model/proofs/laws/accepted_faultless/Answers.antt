use Rattle.saw_model.proofs.Refused.{accepted_faultless}
use Rattle.saw_model.proofs.laws.accepted_faultless.Goals as goal

pub returns : goal.returns
returns c = accepted_faultless
