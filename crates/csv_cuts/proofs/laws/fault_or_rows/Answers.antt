use Rattle.csv_cuts.proofs.Faulty.{fault_or_rows}
use Rattle.csv_cuts.proofs.laws.fault_or_rows.Goals as goal

pub returns : goal.returns
returns c = fault_or_rows
