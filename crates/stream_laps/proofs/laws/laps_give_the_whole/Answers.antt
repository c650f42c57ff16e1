use Rattle.stream_laps.proofs.Laps.{laps_give_the_whole}
use Rattle.stream_laps.proofs.laws.laps_give_the_whole.Goals as goal

pub returns : goal.returns
returns c = laps_give_the_whole
