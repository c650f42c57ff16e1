use Rattle.stream_periods.proofs.Joiners.{joiners_move}
use Rattle.stream_periods.proofs.laws.joiners_move.Goals as goal

pub returns : goal.returns
returns c = joiners_move
