use Rattle.kern_tables.proofs.Meant.{maxima_are}
use Rattle.kern_tables.proofs.laws.maxima_are.Goals as goal

pub returns : goal.returns
returns c = maxima_are
