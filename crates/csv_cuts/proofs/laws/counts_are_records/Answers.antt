use Rattle.csv_cuts.proofs.Marks.{counts_are_records}
use Rattle.csv_cuts.proofs.laws.counts_are_records.Goals as goal

pub returns : goal.returns
returns c = counts_are_records
