use Rattle.saw_model.proofs.Refused.{refused_at_first}
use Rattle.saw_model.proofs.laws.refused_at_first.Goals as goal

pub returns : goal.returns
returns c = refused_at_first
