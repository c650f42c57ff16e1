use Rattle.streamit_model.proofs.Rounds.{collects_longest}
use Rattle.streamit_model.proofs.laws.collects_longest.Goals as goal

pub returns : goal.returns
returns c = collects_longest
