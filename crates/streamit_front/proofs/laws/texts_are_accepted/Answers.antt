use Rattle.streamit_front.proofs.Accepting.{texts_are_accepted}
use Rattle.streamit_front.proofs.laws.texts_are_accepted.Goals as goal

pub returns : goal.returns
returns c = texts_are_accepted
