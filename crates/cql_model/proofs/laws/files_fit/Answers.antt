use Rattle.cql_model.proofs.Fit as fit
use Rattle.cql_model.proofs.laws.files_fit.Goals as goal

pub returns : goal.returns
returns c = fit.files_fit
