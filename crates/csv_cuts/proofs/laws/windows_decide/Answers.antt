use Rattle.csv_cuts.proofs.Windows.{windows_decide}
use Rattle.csv_cuts.proofs.laws.windows_decide.Goals as goal

pub returns : goal.returns
returns c = windows_decide
