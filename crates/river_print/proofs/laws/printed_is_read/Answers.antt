use Rattle.river_print.proofs.Round.{printed_is_read}
use Rattle.river_print.proofs.laws.printed_is_read.Goals as goal

pub returns : goal.returns
returns c = printed_is_read
