use Rattle.kern_tables.proofs.Meant.{sums_are}
use Rattle.kern_tables.proofs.laws.sums_are.Goals as goal

pub returns : goal.returns
returns c = sums_are
