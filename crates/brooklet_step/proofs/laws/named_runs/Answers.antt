use Rattle.brooklet_model.proofs.NamedRun.{named_law}
use Rattle.brooklet_step.proofs.laws.named_runs.Goals as goal

pub returns : goal.returns
returns c = named_law
