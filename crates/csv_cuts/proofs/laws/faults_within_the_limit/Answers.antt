use Rattle.csv_cuts.proofs.Faulty.{faults_within_the_limit}
use Rattle.csv_cuts.proofs.laws.faults_within_the_limit.Goals as goal

pub returns : goal.returns
returns c = faults_within_the_limit
