use Rattle.lap_cuts.proofs.Cuts.{laps_are_records}
use Rattle.lap_cuts.proofs.laws.laps_are_records.Goals as goal

pub returns : goal.returns
returns c = laps_are_records
