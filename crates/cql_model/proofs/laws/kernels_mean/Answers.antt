use Rattle.cql_model.proofs.Kernels as kernels
use Rattle.cql_model.proofs.laws.kernels_mean.Goals as goal

pub returns : goal.returns
returns c = record {
  windows = kernels.windows_are;
  selections = kernels.selects_are;
  projections = kernels.projects_are;
  streamers = kernels.streamers_are;
  products = kernels.crosses_are;
}
