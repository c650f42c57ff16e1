use Rattle.text_tokens.proofs.Ends.{units_are_cut}
use Rattle.text_tokens.proofs.laws.units_are_cut.Goals as goal

pub returns : goal.returns
returns c = units_are_cut
