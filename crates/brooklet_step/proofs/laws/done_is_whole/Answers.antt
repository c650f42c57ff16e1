use Rattle.brooklet_model.proofs.RunsEnd.{done_law}
use Rattle.brooklet_step.proofs.laws.done_is_whole.Goals as goal

pub returns : goal.returns
returns c = done_law
