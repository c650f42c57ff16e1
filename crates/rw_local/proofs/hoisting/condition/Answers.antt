use Rattle.rw_local.proofs.OtherKernels.{no_condition}
use Rattle.rw_local.proofs.hoisting.condition.Goals as goal

pub returns-in_default : goal.returns-in_default
returns-in_default c = no_condition c.args.kernel.now c.in_default.not-Select
