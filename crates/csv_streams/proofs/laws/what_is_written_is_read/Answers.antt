use Rattle.csv_streams.proofs.Writings.{written-is_read}
use Rattle.csv_streams.proofs.laws.what_is_written_is_read.Goals as goal

pub returns : goal.returns
returns c = written-is_read
