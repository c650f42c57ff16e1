use Rattle.csv_cuts.proofs.Faulty.{one_fault_of_all}
use Rattle.csv_cuts.proofs.laws.one_fault_of_all.Goals as goal

pub returns : goal.returns
returns c = one_fault_of_all
