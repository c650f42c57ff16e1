use Rattle.params_model.proofs.FitConstants as texts
use Rattle.params_model.proofs.laws.constants_are_fit.Goals as goal

pub returns : goal.returns
returns c = texts.constants_are_fit
