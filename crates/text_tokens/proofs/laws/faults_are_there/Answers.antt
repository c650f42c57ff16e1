use Rattle.text_tokens.proofs.Slices.{faults_are_there}
use Rattle.text_tokens.proofs.laws.faults_are_there.Goals as goal

pub returns : goal.returns
returns c = faults_are_there
