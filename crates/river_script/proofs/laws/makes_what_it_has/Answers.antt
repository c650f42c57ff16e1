use Rattle.river_script.proofs.Fronts.{makes_what_it_has}
use Rattle.river_script.proofs.laws.makes_what_it_has.Goals as goal

pub returns : goal.returns
returns c = makes_what_it_has
