use Rattle.river_pieces.proofs.Compiled.{compiled_prints_have_rows}
use Rattle.river_pieces.proofs.laws.compiled_prints_have_rows.Goals as goal

pub returns : goal.returns
returns c = compiled_prints_have_rows
