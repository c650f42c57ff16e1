use Rattle.stream_periods.proofs.Walk.{plan_pieces_give_the_whole}
use Rattle.stream_periods.proofs.laws.plan_pieces_give_the_whole.Goals as goal

pub returns : goal.returns
returns c = plan_pieces_give_the_whole
