use Rattle.brooklet_model.proofs.Fronts.{words_fronts_law}
use Rattle.brooklet_step.proofs.laws.words_are_fronts.Goals as goal

pub returns : goal.returns
returns c = words_fronts_law
