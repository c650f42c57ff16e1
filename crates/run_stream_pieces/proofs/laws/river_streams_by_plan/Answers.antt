use Rattle.run_stream_pieces.proofs.Ran.{river_streams_by_plan}
use Rattle.run_stream_pieces.proofs.laws.river_streams_by_plan.Goals as goal

pub returns : goal.returns
returns c = river_streams_by_plan
