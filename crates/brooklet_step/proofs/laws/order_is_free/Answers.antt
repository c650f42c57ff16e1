use Rattle.brooklet_model.proofs.Free.{order_law}
use Rattle.brooklet_step.proofs.laws.order_is_free.Goals as goal

pub returns : goal.returns
returns c = order_law
