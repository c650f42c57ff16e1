use Rattle.csv_streams.proofs.TimedWritten.{timed_are_written}
use Rattle.csv_streams.proofs.laws.timed_rows_that_are_read_are_written.Goals as goal

pub returns : goal.returns
returns c = timed_are_written
