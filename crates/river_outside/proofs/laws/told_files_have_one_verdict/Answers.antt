use Rattle.river_outside.proofs.Told.{verdict-told}
use Rattle.river_outside.proofs.laws.told_files_have_one_verdict.Goals as goal

pub returns : goal.returns
returns c = verdict-told
