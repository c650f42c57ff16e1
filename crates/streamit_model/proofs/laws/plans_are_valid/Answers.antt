use Rattle.streamit_model.proofs.Valid as valid
use Rattle.streamit_model.proofs.laws.plans_are_valid.Goals as goal

pub returns : goal.returns
returns c = valid.plans_are_valid
