use Rattle.river_pieces.proofs.Compiled.{compiled_tables_are_narrow}
use Rattle.river_pieces.proofs.laws.compiled_tables_are_narrow.Goals as goal

pub returns : goal.returns
returns c = compiled_tables_are_narrow
