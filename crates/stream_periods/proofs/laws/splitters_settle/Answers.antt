use Rattle.stream_periods.proofs.Splitters.{splitters_settle}
use Rattle.stream_periods.proofs.laws.splitters_settle.Goals as goal

pub returns : goal.returns
returns c = splitters_settle
