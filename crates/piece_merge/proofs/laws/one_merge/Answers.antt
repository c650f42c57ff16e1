use Rattle.piece_merge.proofs.Once.{one_merge}
use Rattle.piece_merge.proofs.laws.one_merge.Goals as goal

pub returns : goal.returns
returns c = one_merge
