use Rattle.streamit_model.proofs.Firings as firings
use Rattle.streamit_model.proofs.laws.firings_are.Goals as goal

pub returns : goal.returns
returns c = firings.firings_are
