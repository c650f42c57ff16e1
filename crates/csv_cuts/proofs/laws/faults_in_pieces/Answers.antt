use Rattle.csv_cuts.proofs.Faulty.{faults_in_pieces}
use Rattle.csv_cuts.proofs.laws.faults_in_pieces.Goals as goal

pub returns : goal.returns
returns c = faults_in_pieces
