use Rattle.stream_periods.proofs.Late.{joiners_settle}
use Rattle.stream_periods.proofs.laws.joiners_settle.Goals as goal

pub returns : goal.returns
returns c = joiners_settle
