use Rattle.river_outside.proofs.Told.{verdict-same}
use Rattle.river_outside.proofs.laws.only_files_in_turn_matter.Goals as goal

pub returns : goal.returns
returns c = verdict-same
