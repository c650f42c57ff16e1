use Rattle.cql_model.proofs.OnlyLimits as limits
use Rattle.cql_model.proofs.Valid as valid
use Rattle.cql_model.proofs.laws.plans_are_valid.Goals as goal

pub returns : goal.returns
returns c = record { valid = limits.plans_are_valid; rules = valid.plans_keep; faults = limits.only_limits }
