use Rattle.streamit_model.proofs.FilterMet as filters
use Rattle.streamit_model.proofs.laws.filters_mean.Goals as goal

pub returns : goal.returns
returns c = filters.filter_met
