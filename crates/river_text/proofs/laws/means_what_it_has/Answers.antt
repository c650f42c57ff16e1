use Rattle.river_text.proofs.Fronts.{means_what_it_has}
use Rattle.river_text.proofs.laws.means_what_it_has.Goals as goal

pub returns : goal.returns
returns c = means_what_it_has
