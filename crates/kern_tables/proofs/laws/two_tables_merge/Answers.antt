use Rattle.kern_tables.proofs.Pieces.{two_tables_merge}
use Rattle.kern_tables.proofs.laws.two_tables_merge.Goals as goal

pub returns : goal.returns
returns c = two_tables_merge
