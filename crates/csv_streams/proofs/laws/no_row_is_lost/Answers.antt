use Rattle.csv_streams.proofs.SpreadOut.{each_has_a_batch, no_row_is_lost}
use Rattle.csv_streams.proofs.laws.no_row_is_lost.Goals as goal

pub returns : goal.returns
returns c = record { batches = each_has_a_batch; rows = no_row_is_lost }
