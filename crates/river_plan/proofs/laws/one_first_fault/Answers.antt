use Rattle.river_plan.proofs.OneFirst.{fault-one}
use Rattle.river_plan.proofs.laws.one_first_fault.Goals as goal

pub returns : goal.returns
returns c = fault-one
