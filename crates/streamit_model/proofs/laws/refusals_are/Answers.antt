use Rattle.streamit_model.proofs.Refused as refused
use Rattle.streamit_model.proofs.laws.refusals_are.Goals as goal

pub returns : goal.returns
returns c = record { refused = refused.refusals_are; accepted = refused.accepted_are }
