use Rattle.csv_streams.proofs.PrintedRead.{printed_rows_are_read}
use Rattle.csv_streams.proofs.laws.printed_rows_are_read.Goals as goal

pub returns : goal.returns
returns c = printed_rows_are_read
