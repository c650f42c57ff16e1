use Rattle.csv_streams.proofs.TimedWritten.{timed_have_width}
use Rattle.csv_streams.proofs.laws.timed_rows_that_are_read_have_the_width.Goals as goal

pub returns : goal.returns
returns c = timed_have_width
