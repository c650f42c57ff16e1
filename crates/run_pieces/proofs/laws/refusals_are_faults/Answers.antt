use Rattle.run_pieces.proofs.Refused.{refusals_are_faults}
use Rattle.run_pieces.proofs.laws.refusals_are_faults.Goals as goal

pub returns : goal.returns
returns c = refusals_are_faults
