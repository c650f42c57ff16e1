use Rattle.csv_streams.proofs.TimedWritten.{timed_faults_are}
use Rattle.csv_streams.proofs.laws.timed_faults_are.Goals as goal

pub returns : goal.returns
returns c = timed_faults_are
