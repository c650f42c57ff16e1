use Rattle.stream_periods.proofs.Splitters.{splitters_move}
use Rattle.stream_periods.proofs.laws.splitters_move.Goals as goal

pub returns : goal.returns
returns c = splitters_move
