use Rattle.kern_tables.proofs.Pieces.{tables_merge}
use Rattle.kern_tables.proofs.laws.tables_merge.Goals as goal

pub returns : goal.returns
returns c = tables_merge
