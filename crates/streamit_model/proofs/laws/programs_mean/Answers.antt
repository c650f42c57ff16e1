use Rattle.streamit_model.proofs.Programs as programs
use Rattle.streamit_model.proofs.laws.programs_mean.Goals as goal

pub returns : goal.returns
returns c = programs.programs_mean
