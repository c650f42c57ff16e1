use Rattle.saw_model.proofs.EmitRows.{emits_are_rows}
use Rattle.saw_model.proofs.laws.emits_are_rows.Goals as goal

pub returns : goal.returns
returns c = emits_are_rows
