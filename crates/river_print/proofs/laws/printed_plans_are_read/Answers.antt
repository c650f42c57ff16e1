use Rattle.river_print.proofs.Promise.{valid_is_read}
use Rattle.river_print.proofs.laws.printed_plans_are_read.Goals as goal

pub returns : goal.returns
returns c = valid_is_read
