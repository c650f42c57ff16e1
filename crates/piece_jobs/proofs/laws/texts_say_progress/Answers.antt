use Rattle.piece_jobs.proofs.Progressed.{texts_say_progress}
use Rattle.piece_jobs.proofs.laws.texts_say_progress.Goals as goal

pub returns : goal.returns
returns c = texts_say_progress
