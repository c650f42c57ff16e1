use Rattle.csv_streams.proofs.Faulty.{faults_are}
use Rattle.csv_streams.proofs.laws.faults_are.Goals as goal

pub returns : goal.returns
returns c = faults_are
