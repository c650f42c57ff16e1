use Rattle.piece_work.proofs.Decided.{file_decides}
use Rattle.piece_work.proofs.laws.file_decides.Goals as goal

pub returns : goal.returns
returns c = file_decides
