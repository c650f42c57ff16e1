use Rattle.params_model.proofs.Refused as refused
use Rattle.params_model.proofs.laws.refusals_are.Goals as goal

pub returns-clause-refused : goal.returns-clause-refused
returns-clause-refused c = refused.refusals_are

pub returns-clause-accepted : goal.returns-clause-accepted
returns-clause-accepted c = refused.accepted_are
