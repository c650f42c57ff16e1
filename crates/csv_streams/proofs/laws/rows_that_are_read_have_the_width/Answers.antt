use Rattle.csv_streams.proofs.WrittenRows.{read_rows-width}
use Rattle.csv_streams.proofs.laws.rows_that_are_read_have_the_width.Goals as goal

pub returns : goal.returns
returns c = read_rows-width
