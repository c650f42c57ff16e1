use Rattle.stream_laps.proofs.Laps.{overlaps_are_slices}
use Rattle.stream_laps.proofs.laws.overlaps_are_slices.Goals as goal

pub returns : goal.returns
returns c = overlaps_are_slices
