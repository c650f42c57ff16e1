use Rattle.brooklet_model.proofs.Turned as turned
use Rattle.brooklet_model.proofs.laws.deals_by_index.Goals as goal

pub returns : goal.returns
returns c = turned.deals_by_index
