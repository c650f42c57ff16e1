use Rattle.free_model.proofs.Falling.{firings_count_down}
use Rattle.free_model.proofs.laws.firings_count_down.Goals as goal

pub returns : goal.returns
returns c = firings_count_down
