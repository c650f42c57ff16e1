use Rattle.streamit_model.proofs.Programs as programs
use Rattle.streamit_model.proofs.laws.kernels_mean.Goals as goal

pub returns : goal.returns
returns c = record { filters = programs.fed_filters; splitters = programs.fed_splitters; joiners = programs.fed_joiners }
