use Rattle.brooklet_step.proofs.HeldTyped.{all_held_typed}
use Rattle.brooklet_step.proofs.laws.typed_is_held.Goals as goal

pub returns : goal.returns
returns c = all_held_typed
