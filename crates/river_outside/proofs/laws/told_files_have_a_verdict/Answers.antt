use Rattle.river_outside.proofs.Told.{verdict-is}
use Rattle.river_outside.proofs.laws.told_files_have_a_verdict.Goals as goal

pub returns : goal.returns
returns c = verdict-is
