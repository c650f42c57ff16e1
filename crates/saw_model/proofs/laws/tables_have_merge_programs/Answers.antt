use Rattle.saw_model.proofs.Pieces.{tables_have_merge_programs}
use Rattle.saw_model.proofs.laws.tables_have_merge_programs.Goals as goal

pub returns : goal.returns
returns c = tables_have_merge_programs
