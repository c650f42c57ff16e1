use Rattle.stream_pieces.proofs.ByPlan.{stream_pieces_by_plan}
use Rattle.stream_pieces.proofs.laws.stream_pieces_by_plan.Goals as goal

pub returns : goal.returns
returns c = stream_pieces_by_plan
