use Rattle.cql_model.proofs.Stamps as stamps
use Rattle.cql_model.proofs.laws.instants_are_stamps.Goals as goal

pub returns : goal.returns
returns c = record { instants = stamps.instants_are; means = stamps.means_at_instants }
