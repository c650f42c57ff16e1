use Rattle.kept_pieces.proofs.Kept.{front_is_kept}
use Rattle.kept_pieces.proofs.laws.front_is_kept.Goals as goal

pub returns : goal.returns
returns c = front_is_kept
