use Rattle.csv_streams.proofs.WrittenRows.{read_rows-written}
use Rattle.csv_streams.proofs.laws.rows_that_are_read_are_written.Goals as goal

pub returns : goal.returns
returns c = read_rows-written
