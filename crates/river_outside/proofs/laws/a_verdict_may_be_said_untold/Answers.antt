use Rattle.river_outside.proofs.Told.{verdict-untold}
use Rattle.river_outside.proofs.laws.a_verdict_may_be_said_untold.Goals as goal

pub returns : goal.returns
returns c = verdict-untold
