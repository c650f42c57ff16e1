use Rattle.kern_tables.proofs.Pieces.{merges_are_tables}
use Rattle.kern_tables.proofs.laws.merges_are_tables.Goals as goal

pub returns : goal.returns
returns c = merges_are_tables
