use Rattle.stream_periods.proofs.Filters.{filters_settle}
use Rattle.stream_periods.proofs.laws.filters_settle.Goals as goal

pub returns : goal.returns
returns c = filters_settle
