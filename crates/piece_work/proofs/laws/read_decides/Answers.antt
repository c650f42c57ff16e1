use Rattle.piece_work.proofs.Decided.{read_decides}
use Rattle.piece_work.proofs.laws.read_decides.Goals as goal

pub returns : goal.returns
returns c = read_decides
