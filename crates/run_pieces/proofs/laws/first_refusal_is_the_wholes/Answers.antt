use Rattle.run_pieces.proofs.Refused.{first_refusal_is_the_wholes}
use Rattle.run_pieces.proofs.laws.first_refusal_is_the_wholes.Goals as goal

pub returns : goal.returns
returns c = first_refusal_is_the_wholes
