use Rattle.brooklet_model.proofs.FusedRun.{fused_law}
use Rattle.brooklet_step.proofs.laws.fused_runs.Goals as goal

pub returns : goal.returns
returns c = fused_law
