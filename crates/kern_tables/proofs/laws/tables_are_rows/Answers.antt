use Rattle.kern_tables.proofs.Pieces.{tables_are_rows}
use Rattle.kern_tables.proofs.laws.tables_are_rows.Goals as goal

pub returns : goal.returns
returns c = tables_are_rows
