use Rattle.stream_periods.proofs.Balance.{beside_is_balance}
use Rattle.stream_periods.proofs.laws.beside_is_balance.Goals as goal

pub returns : goal.returns
returns c = beside_is_balance
