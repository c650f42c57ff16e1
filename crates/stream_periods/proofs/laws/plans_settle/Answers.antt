use Rattle.stream_periods.proofs.Walk.{plans_settle}
use Rattle.stream_periods.proofs.laws.plans_settle.Goals as goal

pub returns : goal.returns
returns c = plans_settle
