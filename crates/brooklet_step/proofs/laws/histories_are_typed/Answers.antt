use Rattle.brooklet_model.proofs.TypedPlan.{typed_law}
use Rattle.brooklet_step.proofs.laws.histories_are_typed.Goals as goal

pub returns : goal.returns
returns c = typed_law
