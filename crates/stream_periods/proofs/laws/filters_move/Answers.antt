use Rattle.stream_periods.proofs.Filters.{filters_move}
use Rattle.stream_periods.proofs.laws.filters_move.Goals as goal

pub returns : goal.returns
returns c = filters_move
