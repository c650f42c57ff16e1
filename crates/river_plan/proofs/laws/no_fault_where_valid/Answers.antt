use Rattle.river_plan.proofs.ValidLaw.{no_fault-valid, valid-no_fault}
use Rattle.river_plan.proofs.laws.no_fault_where_valid.Goals as goal

pub returns : goal.returns
returns c = λ p. (no_fault-valid p, valid-no_fault p)
