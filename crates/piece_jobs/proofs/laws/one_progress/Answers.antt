use Rattle.piece_jobs.proofs.Progressed.{one_progress}
use Rattle.piece_jobs.proofs.laws.one_progress.Goals as goal

pub returns : goal.returns
returns c = one_progress
