use Rattle.river_plan.specs.Told.{first_fault_found}
use Rattle.river_plan.proofs.JudgeLemmas.{fault_of-is}
use Rattle.river_plan.proofs.laws.first_fault_is_told.Goals as goal

pub returns-clause-found : goal.returns-clause-found
returns-clause-found c = λ p. (first_fault_found p).1

pub returns-clause-alone : goal.returns-clause-alone
returns-clause-alone c = fault_of-is
