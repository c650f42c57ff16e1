use Rattle.csv_streams.proofs.Writings.{read-is_written}
use Rattle.csv_streams.proofs.laws.what_is_read_is_written.Goals as goal

pub returns : goal.returns
returns c = read-is_written
