use Rattle.csv_streams.proofs.WrittenRows.{written_rows-read}
use Rattle.csv_streams.proofs.laws.rows_that_are_written_are_read.Goals as goal

pub returns : goal.returns
returns c = written_rows-read
