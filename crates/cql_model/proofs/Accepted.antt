-- Accepted programs: their plans are valid, and mean what the programs mean.
use Rattle.cql_model.specs.Faults.{AcceptedAreValid, AcceptedMean}
use Rattle.cql_model.proofs.Front.{plans_mean}
use Rattle.cql_model.proofs.Judged.{accepted_plannable}
use Rattle.cql_model.proofs.OnlyLimits.{plans_are_valid}

-- the law: the plan of an accepted program is valid
pub accepted_are_valid : AcceptedAreValid
accepted_are_valid p s a = plans_are_valid p (accepted_plannable p s a) a.within

-- the law: and it means what the program means
pub accepted_mean : AcceptedMean
accepted_mean p files s a are = plans_mean p files (accepted_plannable p s a) a.within are
