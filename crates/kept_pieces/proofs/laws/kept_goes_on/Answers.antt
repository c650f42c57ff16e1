use Rattle.kept_pieces.proofs.Kept.{kept_goes_on}
use Rattle.kept_pieces.proofs.laws.kept_goes_on.Goals as goal

pub returns : goal.returns
returns c = kept_goes_on
