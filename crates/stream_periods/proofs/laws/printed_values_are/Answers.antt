use Rattle.stream_periods.proofs.Texts.{printed_values_are}
use Rattle.stream_periods.proofs.laws.printed_values_are.Goals as goal

pub returns : goal.returns
returns c = printed_values_are
